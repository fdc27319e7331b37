-- The rounds depend on the core drives' proposals only: what is known is the numbers of core drives.
use Rattle.std.specs.Prelude.{◌≡◌, true, not, ◌&&◌, ◌||◌}
use Rattle.std.proofs.Math.Path.{refl, ap, fun_ext}
use Rattle.std.proofs.Common.{sym, ◌∙◌}
use Rattle.std.proofs.Math.Bool.{cond}
use Rattle.std.proofs.Math.Logic.{⊎_elim}
use Rattle.std.proofs.Math.Option.{Option, none, or_else}
use Prim.Native.Nat.{ℕ, zero, suc}
use Rattle.drive_sets.specs.Bools.{◌⊆◌}
use Rattle.drive_sets.specs.Bools.Laws.{and_right, or_cases}
use Rattle.drive_sets.specs.Options.{is_some}
use Rattle.drive_sets.specs.Lists.{range, filter, elem}
use Rattle.drive_sets.specs.Lists.Laws.{elem_filter, any_elem}
use Rattle.drive_sets.specs.Lists.Smallest.{smallest_same}
use Rattle.sync_crash.specs.Rounds.{Instance, Lawful, View, start, smallest_of, sends, reaches, adds, known, announces, announced, heard, unchanged, stable, if_stable, decides, halts, closes, closed, step, after}
use Rattle.sync_crash.proofs.Rounds.Validity.{knows_core}

module _ {S : Instance} (L : Lawful S) (other : ℕ → ℕ) (same : (d : ℕ) → S.core d ≡ true → S.proposal d ≡ other d) where
  open S use {n, core, proposal}

  -- the instance with these proposals
  abbrev pub proposing : Instance
  proposing = record { n = n; core = core; proposal = other; alive = S.alive; reach = S.reach }

  known_core : (k e : ℕ) → known S (after S k) k e ⊆ core
  unfolding known adds
  known_core k e x t =
      ⊎_elim (knows_core L k e x)
      (λ a. let w = any_elem (λ d. adds S (after S k) k d e x) (range 1 n) a in
      knows_core L k w.0 x (and_right (not (is_some (after S k w.0).decision)) _ (and_right (reaches S (after S k) k w.0 e) _ w.2)))
      (or_cases ((after S k e).knows x) _ t)

  choice_same : (k e : ℕ) → if_stable S (after S k) k e ≡ if_stable proposing (after S k) k e
  unfolding if_stable smallest_of known adds reaches sends stable heard unchanged
  choice_same k e =
      ap (λ (o : Option ℕ). cond (stable S (after S k) k e) o none)
      (smallest_same proposal other (filter (known S (after S k) k e) (range 1 n)) _ (λ x. refl)
      (λ x t. same x (known_core k e x (and_right (elem x (range 1 n)) _ (sym (elem_filter _ x (range 1 n)) ∙ t)))))

  step_same : (k e : ℕ) → step S (after S k) k e ≡ step proposing (after S k) k e
  unfolding step closed decides halts announced announces known adds reaches sends heard closes
  step_same k e = ap (λ (o : Option ℕ). cond (closes S (after S k) k e) (given o) (after S k e)) (choice_same k e)
    where
      chosen : Option ℕ → Option ℕ
      chosen o = or_else (after S k e).decision (or_else (announced S (after S k) k e) o)

      given : Option ℕ → View
      given o = record {
        knows = known S (after S k) k e;
        before = heard S (after S k) k e;
        decision = chosen o;
        halted = is_some (after S k e).decision || (not (core e) && is_some (chosen o));
      }

  pub rounds_same : (k : ℕ) → after S k ≡ after proposing k
  unfolding after start
  rounds_same zero = refl
  rounds_same (suc k) = fun_ext (step_same k) ∙ ap (λ (view : ℕ → View). step proposing view k) (rounds_same k)
