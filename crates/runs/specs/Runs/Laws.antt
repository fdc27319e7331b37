-- Laws of runs: the test whether two lists are equal, the listings of one table, the opening that is due, what happens
-- in the opening part to a drive that is not opened yet, and that only a due close makes a drive count as closed.
use Rattle.std.specs.Prelude.{◌≡◌, refl, Bool, true, false, ◌&&◌, ◌||◌, List, [], ◌∷◌, ℕ, eqb}
use Rattle.std.proofs.Common.{sym, ap, ap₂, ◌∙◌, ⊎_elim, eqb-true, eq-eqb}
use Rattle.std.proofs.lemmas.Bool.{not-true}
use Rattle.drive_sets.specs.Bools.Laws.{clash, and_intro, and_left, and_right, and_not, or_cases, or_false_left, or_false_right}
use Rattle.drive_sets.specs.Refusals.{Outcome, refused, yields}
use Rattle.drive_sets.specs.Counts.{is_drive}
use Rattle.survivor_tables.specs.Order.{normal}
use Rattle.survivor_tables.specs.Order.Normal.{normal_idempotent}
use Rattle.survivor_tables.specs.Tables.{normal_table}
use Rattle.survivor_tables.proofs.Tables.Laws.{table_accepted, accepted_table, accepted_normal}
use Rattle.runs.specs.Protocol.{Protocol}
use Rattle.runs.specs.Scenario.{Scenario}
use Rattle.runs.specs.World.{Call, opens, sends, delivers, closes, drive_of, unopened, World, apply, refused_in}
use Rattle.runs.specs.World.Laws.{apply_other, refused_keeps}
use Rattle.runs.specs.Runs.{same_list, is_table, due_opening, RoundProgress, noted}

pub same_list_true : (l m : List ℕ) → same_list l m ≡ true → l ≡ m
unfolding same_list
same_list_true [] [] h = refl
same_list_true [] (y ∷ m) h = absurd (clash h refl)
same_list_true (x ∷ l) [] h = absurd (clash h refl)
same_list_true (x ∷ l) (y ∷ m) h =
    ap₂ (λ (z : ℕ) (k : List ℕ). z ∷ k) (eqb-true x y (and_left (eqb x y) (same_list l m) h)) (same_list_true l m (and_right (eqb x y) (same_list l m) h))

pub same_list_refl : (l : List ℕ) → same_list l l ≡ true
unfolding same_list
same_list_refl [] = refl
same_list_refl (x ∷ l) = and_intro (eq-eqb x x refl) (same_list_refl l)

-- ---- openings

pub table_is : (o : Outcome (List ℕ)) (table : List ℕ) → is_table o table ≡ true → o ≡ yields table
unfolding is_table
table_is (refused r) table h = absurd (clash h refl)
table_is (yields given) table h = ap yields (same_list_true given table h)

pub is_table_law : {o : Outcome (List ℕ)} {table : List ℕ} → o ≡ yields table → is_table o table ≡ true
unfolding is_table
is_table_law {table = table} e = rw e (same_list_refl table)

-- the normal table, which the reader hands back, is one of the listings of a table
pub normal_listing : (n : ℕ) (sets : List ℕ) → normal_table n sets ≡ yields (normal sets) → normal_table n (normal sets) ≡ yields (normal sets)
normal_listing n sets e = accepted_table n (normal sets) (accepted_normal n sets (table_accepted n sets (normal sets) e).0) ∙ ap yields (normal_idempotent sets)

-- the call opens a drive of the frame that was not opened yet, as the scenario asks for, from a listing of its table
pub record Opens (s : Scenario) (done : ℕ → Bool) (c : Call) (d : ℕ) : Type 0 where
  pub in_frame : is_drive s.n d ≡ true
  pub new : done d ≡ false
  pub listing : List ℕ
  pub table : normal_table s.n listing ≡ yields (normal s.sets)
  pub is : c ≡ opens d s.n listing d (s.proposal d)

pub due_opens : (s : Scenario) (done : ℕ → Bool) (c : Call) → due_opening s done c ≡ true → Opens s done c (drive_of c)
unfolding due_opening drive_of
due_opens s done (opens d n sets own number) t =
    let n_is : n ≡ s.n = eqb-true n s.n (search (and_left, and_right)) in
    let accepted = table_is (normal_table n sets) (normal s.sets) (search (and_left, and_right)) in
    let own_is : own ≡ d = eqb-true own d (search (and_left, and_right)) in
    let number_is : number ≡ s.proposal d = eqb-true number (s.proposal d) (search and_right) in
    record {
      in_frame = search (and_left, and_right);
      new = not-true (done d) (search (and_left, and_right));
      listing = sets;
      table = ap (λ (m : ℕ). normal_table m sets) (sym n_is) ∙ accepted;
      is = cc;
    }
due_opens s done (sends d room start) t = absurd (clash t refl)
due_opens s done (delivers d bytes) t = absurd (clash t refl)
due_opens s done (closes d) t = absurd (clash t refl)

-- those opened once the call is made
abbrev pub done_after : Scenario → (ℕ → Bool) → Call → ℕ → Bool
done_after s done c d = (due_opening s done c && eqb d (drive_of c)) || done d

-- a drive that was not opened yet is not open
abbrev pub NotYet : (ℕ → Bool) → World → Type 0
NotYet done w = (d : ℕ) → done d ≡ false → w d ≡ unopened

pub not_yet : (P : Protocol) (s : Scenario) (done : ℕ → Bool) (w : World) (c : Call) → NotYet done w → (due_opening s done c || refused_in P w c) ≡ true
    → NotYet (done_after s done c) (apply P w c)
not_yet P s done w c none t d h =
    ⊎_elim
    (λ is_due_law. apply_other P w c d (and_not (due_opening s done c) (eqb d (drive_of c)) is_due_law (or_false_left (due_opening s done c && eqb d (drive_of c)) (done d) h)))
    (λ is_refused. refused_keeps P w c is_refused d)
    (or_cases (due_opening s done c) (refused_in P w c) t)
    ∙ none d (or_false_right (due_opening s done c && eqb d (drive_of c)) (done d) h)

-- ---- closes

-- a call that makes a drive count as closed is a close of it
pub closed_by : (P : Protocol) (s : Scenario) (r : ℕ) (w₀ : World) (b : RoundProgress) (w : World) (c : Call) (d : ℕ) → b.closed d ≡ false → (noted P s r w₀ b w c).closed d ≡ true
    → c ≡ closes d
unfolding noted
closed_by P s r w₀ b w (opens e n sets own number) d o h = absurd (clash h o)
closed_by P s r w₀ b w (sends e room start) d o h = absurd (clash h o)
closed_by P s r w₀ b w (delivers e bytes) d o h = absurd (clash h o)
closed_by P s r w₀ b w (closes e) d o h =
    ⊎_elim (λ t. ap closes (sym (eqb-true d e t))) (λ t. absurd (clash t o)) (or_cases (eqb d e) (b.closed d) h)
