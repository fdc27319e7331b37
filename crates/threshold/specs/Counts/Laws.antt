-- The table follows its rule, and a table that does has the numbers of groups, held at 1025.
use Rattle.std.specs.Prelude.{◌≡◌, refl, true, List, [], ◌∷◌, ◌++◌, length, get_or, replicate, ltb}
use Rattle.std.proofs.Common.{sym, ap₂, ◌∙◌, arith, get_or-append-add}
use Rattle.std.proofs.Math.Path.{ap}
use Prim.Native.Nat.{ℕ, zero, suc, ◌+◌, ◌*◌, ◌≤◌, ◌<◌}
use Rattle.std.proofs.lemmas.List.{length-replicate, get_or-replicate}
use Rattle.std.proofs.Math.ListN.{get_or-append}
use borrow.Author.Tests.{lt-ltb}
use Rattle.drive_sets.specs.Limits.{max_drives, max_cores}
use Rattle.threshold.specs.Groups.{group_count}
use Rattle.threshold.specs.Groups.Laws.{count_zero, count_none, count_sum}
use Rattle.threshold.specs.Counts.{held, Rule, sums_held, next_row, rows, row_length, group_counts, count_at}

-- ---- rows

length_sums : (left : ℕ) (row : List ℕ) → length (sums_held left row) ≡ length row
unfolding sums_held
length_sums left [] = refl
length_sums left (above ∷ row) = ap suc (length_sums above row)

length_next : (row : List ℕ) → length (next_row row) ≡ length row
unfolding next_row
length_next [] = refl
length_next (above ∷ row) = ap suc (length_sums above row)

sums_entry : (left : ℕ) (row : List ℕ) (t : ℕ) → t < length row → get_or (sums_held left row) t 0 ≡ held (get_or row t 0 + get_or (left ∷ row) t 0)
unfolding sums_held
sums_entry left [] t h = absurd (omega arith)
sums_entry left (above ∷ row) zero h = refl
sums_entry left (above ∷ row) (suc t) h = sums_entry above row t (omega arith)

next_entry : (row : List ℕ) (t : ℕ) → suc t < length row → get_or (next_row row) (suc t) 0 ≡ held (get_or row (suc t) 0 + get_or row t 0)
unfolding next_row
next_entry [] t h = absurd (omega arith)
next_entry (above ∷ row) t h = sums_entry above row t (omega arith)

next_start : (row : List ℕ) → 1 ≤ length row → get_or (next_row row) 0 0 ≡ 1
unfolding next_row
next_start [] h = absurd (omega arith)
next_start (above ∷ row) h = refl

-- the row that is so many below
row_below : ℕ → List ℕ → List ℕ
row_below zero row = row
row_below (suc n) row = next_row (row_below n row)

below_next : (n : ℕ) (row : List ℕ) → row_below n (next_row row) ≡ next_row (row_below n row)
unfolding row_below
below_next zero row = refl
below_next (suc n) row = ap next_row (below_next n row)

length_below : (n : ℕ) (row : List ℕ) → length (row_below n row) ≡ length row
unfolding row_below
length_below zero row = refl
length_below (suc n) row = length_next (row_below n row) ∙ length_below n row

rows_entry : (c n : ℕ) (row : List ℕ) (t : ℕ) → length row ≡ row_length → n < c → t < row_length
    → get_or (rows c row) (n * row_length + t) 0 ≡ get_or (row_below n row) t 0
unfolding rows row_below
rows_entry zero n row t e h k = absurd (omega arith)
rows_entry (suc c) zero row t e h k =
    let place : 0 * row_length + t ≡ t = omega arith in
    ap (λ (i : ℕ). get_or (row ++ rows c (next_row row)) i 0) place ∙ get_or-append row (rows c (next_row row)) 0 t (omega (arith, e))
rows_entry (suc c) (suc n) row t e h k =
    ap (λ (i : ℕ). get_or (row ++ rows c (next_row row)) i 0) place
    ∙ (get_or-append-add row (rows c (next_row row)) (n * row_length + t) 0
    ∙ (rows_entry c n (next_row row) t (length_next row ∙ e) (omega arith) k ∙ ap (λ (r : List ℕ). get_or r t 0) (below_next n row)))
  where
    place : suc n * row_length + t ≡ length row + (n * row_length + t)
    place = omega (arith, e)

-- ---- the table

first_row : List ℕ
first_row = 1 ∷ replicate max_drives 0

first_length : length first_row ≡ row_length
unfolding first_row
first_length = ap suc (length-replicate {A = ℕ} max_drives 0)

count_entry : (n t : ℕ) → n ≤ max_drives → t ≤ max_drives → count_at n t ≡ get_or (row_below n first_row) t 0
unfolding count_at group_counts first_row
count_entry n t p q = rows_entry row_length n first_row t first_length (omega arith) (omega arith)

-- the rule, shown once for all entries
pub counts_rule : Rule count_at
unfolding row_below first_row
counts_rule = record {
  first_row_law = λ t h. count_entry 0 (suc t) (omega arith) h ∙ get_or-replicate max_drives t 0 0 h;
  starts = start;
  sums = λ n t h k.
      count_entry (suc n) (suc t) h k
      ∙ (next_entry (row_below n first_row) t (omega (arith, length_below n first_row, first_length))
      ∙ ap held (ap₂ ◌+◌ (sym (count_entry n (suc t) (omega arith) k)) (sym (count_entry n t (omega arith) (omega arith)))));
}
  where
    start : (n : ℕ) → n ≤ max_drives → count_at n 0 ≡ 1
    start zero h = count_entry 0 0 (omega arith) (omega arith)
    start (suc n) h =
        count_entry (suc n) 0 h (omega arith) ∙ next_start (row_below n first_row) (omega (arith, length_below n first_row, first_length))

-- ---- what follows from the rule

held_sum : (a b : ℕ) → held (held a + held b) ≡ held (a + b)
unfolding held
held_sum a b = omega arith

module _ (entry : ℕ → ℕ → ℕ) (rule : Rule entry) where
  -- the entries are the numbers of groups, held at 1025
  pub rule_counts : (n t : ℕ) → n ≤ max_drives → t ≤ max_drives → entry n t ≡ held (group_count t n)
  unfolding held
  rule_counts n zero p q = rule.starts n p ∙ ap held (sym (count_zero n))
  rule_counts zero (suc t) p q = rule.first_row_law t q ∙ ap held (sym (count_none t))
  rule_counts (suc n) (suc t) p q =
      rule.sums n t p q
      ∙ (ap held (ap₂ ◌+◌ (rule_counts n (suc t) (omega arith) q) (rule_counts n t (omega arith) (omega arith)))
      ∙ (held_sum (group_count (suc t) n) (group_count t n) ∙ ap held (sym (count_sum t n))))

pub count_held : (n t : ℕ) → n ≤ max_drives → t ≤ max_drives → count_at n t ≡ held (group_count t n)
count_held = rule_counts count_at counts_rule

-- an entry tells whether the number is above a limit below 1025
module _ {r : ℕ} (n t : ℕ) (high : n ≤ max_drives) (most : t ≤ max_drives) (e : r ≡ count_at n t) (limit : ℕ) (low : limit ≤ max_cores) where
  pub count_above_limit : limit < r → ltb limit (group_count t n) ≡ true
  unfolding held
  count_above_limit h = lt-ltb limit (group_count t n) (omega (arith, e, count_held n t high most, low))

  pub count_within : r ≤ limit → group_count t n ≤ limit
  unfolding held
  count_within h = omega (arith, e, count_held n t high most, low)
