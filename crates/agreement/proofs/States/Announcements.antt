-- The announcement of the lowest-numbered drive that makes one: it is the first value on the rising list of drives, and
-- keeping the lower of two senders as messages come gives it, whatever the order.
use mathlib.Core.Path.{◌≡◌, refl, sym, ap, ap₂, ◌∙◌}
use mathlib.Core.Bool.{true, false}
use mathlib.Core.Logic.{◌⊎◌, inl, inr, ⊎_elim}
use mathlib.Core.List.{List, [], ◌∷◌}
use mathlib.Core.Option.{Option, none, some, or_else}
use Prim.Native.Nat.{ℕ, ◌<◌}
use native.Mathlib.Omega.{arith}
use lib.Dec.{eqb, ltb}
use borrow.Author.Tests.{ltb-true, le-ltb, ne_eqb}
use Rattle.drive_sets.specs.Bools.Laws.{clash, and_left, and_right, cond_true, cond_false}
use Rattle.drive_sets.specs.Options.Laws.{by_option}
use Rattle.drive_sets.specs.Lists.{all, elem, ordered, first_some}
use Rattle.drive_sets.specs.Lists.Laws.{elem_none, elem_head, elem_tail, elem_cases, all_elem}
use Rattle.drive_states.specs.declared.Announcement.{Announcement}
use Rattle.drive_states.specs.declared.Announcement.TheVariants.{Absent, By}
use Rattle.agreement.specs.Calls.{lower}
use Rattle.agreement.proofs.States.{announcement_by, announcement_of}

abbrev pub by : ℕ → ℕ → Announcement
by d v = By (record { 0 = d }) (record { 0 = v })

-- a drive of the list makes the announcement
pub record Announced (f : ℕ → Option ℕ) (l : List ℕ) : Type 0 where
  pub drive : ℕ
  pub value : ℕ
  pub listed : elem drive l ≡ true
  pub made : announcement_of f l ≡ by drive value
  pub first : first_some f l ≡ some value

pub announced_cases : (f : ℕ → Option ℕ) (l : List ℕ) → ((announcement_of f l ≡ Absent) × (first_some f l ≡ none)) ⊎ Announced f l
unfolding announcement_of announcement_by first_some or_else
announced_cases f [] = inl (refl, refl)
announced_cases f (x ∷ l) =
    by_option (f x)
    (λ o. ⊎_elim
    (λ c. inl (ap₂ (announcement_by x) o c.0, ap₂ or_else o c.1))
    (λ c. inr (record {
      drive = c.drive;
      value = c.value;
      listed = elem_tail c.drive x l c.listed;
      made = ap₂ (announcement_by x) o c.made;
      first = ap₂ or_else o c.first;
    }))
    (announced_cases f l))
    (λ v o. inr (record {
      drive = x;
      value = v;
      listed = elem_head x l;
      made = ap (λ z. announcement_by x z (announcement_of f l)) o;
      first = ap (λ z. or_else z (first_some f l)) o;
    }))

pub none_announced : (l : List ℕ) → announcement_of (λ d. none) l ≡ Absent
unfolding announcement_of announcement_by
none_announced [] = refl
none_announced (x ∷ l) = none_announced l

-- the head of the list, by whether it makes an announcement
module _ (f : ℕ → Option ℕ) (x : ℕ) (l : List ℕ) where
  head_makes : {u : ℕ} → f x ≡ some u → announcement_of f (x ∷ l) ≡ by x u
  unfolding announcement_of announcement_by
  head_makes o = ap (λ z. announcement_by x z (announcement_of f l)) o

  head_passes : f x ≡ none → announcement_of f (x ∷ l) ≡ announcement_of f l
  unfolding announcement_of announcement_by
  head_passes o = ap (λ z. announcement_by x z (announcement_of f l)) o

-- g announces as f does, but for d, which announces v and did not announce before
module _ (f g : ℕ → Option ℕ) (d v : ℕ) (old : f d ≡ none) (new : g d ≡ some v) (others : (y : ℕ) → eqb y d ≡ false → g y ≡ f y) where
  lower_later : (x u : ℕ) → x < d → lower (by x u) d v ≡ by x u
  unfolding lower
  lower_later x u h = cond_false _ _ (le-ltb d x (omega arith))

  -- before all that are listed
  lower_first : (l : List ℕ) → all (ltb d) l ≡ true → lower (announcement_of f l) d v ≡ by d v
  unfolding lower
  lower_first l above =
      ⊎_elim
      (λ c. ap (λ z. lower z d v) c.0)
      (λ c. ap (λ z. lower z d v) c.made ∙ cond_true _ _ (all_elem (ltb d) l c.drive above c.listed))
      (announced_cases f l)

  pub lower_also : (l : List ℕ) → ordered ltb l ≡ true → elem d l ≡ true → lower (announcement_of f l) d v ≡ announcement_of g l
  unfolding ordered
  lower_also [] rising i = absurd (clash i (elem_none d))
  lower_also (x ∷ l) rising i =
      let above = and_left (all (ltb x) l) (ordered ltb l) rising in
      ⊎_elim
      (λ e. rw (← e) (ap (λ z. lower z d v) (head_passes f d l old) ∙ (lower_first l (rw e above) ∙ sym (head_makes g d l new))))
      (λ j. let before = ltb-true x d (all_elem (ltb x) l d above j) in
      let other = others x (ne_eqb x d (λ e. omega arith)) in
      by_option (f x)
      (λ n. ap (λ z. lower z d v) (head_passes f x l n)
      ∙ (lower_also l (and_right (all (ltb x) l) (ordered ltb l) rising) j ∙ sym (head_passes g x l (other ∙ n))))
      (λ u n. ap (λ z. lower z d v) (head_makes f x l n) ∙ (lower_later x u before ∙ sym (head_makes g x l (other ∙ n)))))
      (elem_cases d x l i)
