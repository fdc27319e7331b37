-- Sets marked by their places: the set at place 64 * i + b - 1 is marked by bit b of word i, counted from 1.
use Rattle.std.specs.Prelude.{◌≡◌, Bool, true, false, not, List, ℕ, ◌+◌, ◌-◌, ◌*◌, ◌≤◌, ◌<◌, eqb, length, get_or, drop}
use Rattle.drive_sets.specs.Masks.{has, common, meets, size}

-- the first n words mark the sets that pass the test
pub record Marked (n : ℕ) (words sets : List ℕ) (test : ℕ → Bool) : Type 0 where
  pub room : n ≤ length words
  pub each : (i b : ℕ) → i < n → 1 ≤ b → b ≤ 64 → has b (get_or words i 0) ≡ test (get_or sets (64 * i + b - 1) 0)

-- for each drive its column, 16 words of marks of the sets that hold it
abbrev pub Columns : List ℕ → List ℕ → Type 0
Columns columns sets = (d : ℕ) → 1 ≤ d → d ≤ 64 → Marked 16 (drop (16 * (d - 1)) columns) sets (has d)

-- what a search knows of m: the marks of the sets that m misses, and of those that m meets in one drive alone
pub record Tracked (n : ℕ) (columns sets : List ℕ) (m : ℕ) (missed once : List ℕ) : Type 0 where
  pub few : n ≤ 16
  pub by_drive : Columns columns sets
  pub misses : Marked n missed sets (λ s. not (meets s m))
  pub shares_one : Marked n once sets (λ s. eqb (size (common s m)) 1)

-- x is in each set that the word marks, its first place being `base`
abbrev pub InMarked : List ℕ → ℕ → ℕ → ℕ → Type 0
InMarked sets base word x = (b : ℕ) → has b word ≡ true → base + b - 1 < length sets → has x (get_or sets (base + b - 1) 0) ≡ true

-- the sets that a word marks are among the first 64, are marked in the first of the words, and share no drive with c
abbrev pub Apart : List ℕ → List ℕ → ℕ → ℕ → Type 0
Apart sets words far c =
    (b : ℕ) → has b far ≡ true → (has b (get_or words 0 0) ≡ true) × (b - 1 < length sets) × ((x : ℕ) → has x c ≡ true → has x (get_or sets (b - 1) 0) ≡ false)
