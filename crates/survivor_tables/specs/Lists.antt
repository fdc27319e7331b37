-- What a contract sees of a list of masks in fixed memory.
use Rattle.std.specs.Prelude.{ℕ, List}

-- the masks, and the places behind them, of which no clause says anything
pub record MaskList : Type 0 where
  pub items : List ℕ
  pub spare : List ℕ
