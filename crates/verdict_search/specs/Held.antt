-- What the code's values say: a verdict in the arrays of an answer and back, and what the search found.
use Rattle.std.specs.Prelude.{List, [], ◌∷◌, ◌++◌, ℕ, take, Option, None, Some}
use Rattle.std.proofs.Math.Option.{Option as Search, some, none}
use Rattle.verdict_search.specs.declared.Verdict.{Verdict as Answer}
use Rattle.verdict_search.specs.declared.Verdict.TheVariants.{Yes, No}
use Rattle.verdict_search.specs.Verdicts.{Verdict, yes, no}

-- the verdict on k that an answer holds: yes, or no with the first k positions and blocks
unfoldable pub verdict_of : Answer → ℕ → Verdict
verdict_of Yes k = yes
verdict_of (No positions blocks) k = no (take k positions) (take k blocks)

-- a list in an array of four, with zeros behind it
unfoldable pub in_four : List ℕ → List ℕ
in_four l = take 4 (l ++ (0 ∷ 0 ∷ 0 ∷ 0 ∷ []))

-- a no with these positions and blocks
unfoldable pub with_blocks : List ℕ → List ℕ → Answer
with_blocks positions blocks = No positions (in_four blocks)

-- zeros, where there is none
abbrev pub no_verdict : Answer
no_verdict = with_blocks (in_four []) []

-- the answer that holds a verdict
unfoldable pub answer_of : Verdict → Answer
answer_of yes = Yes
answer_of (no positions blocks) = with_blocks (in_four positions) blocks

-- the positions found, if any, in an array
abbrev pub Found : Type 0
Found = Option (List ℕ)

unfoldable pub found_in : Search (List ℕ) → Found
found_in none = None
found_in (some ps) = Some (in_four ps)
