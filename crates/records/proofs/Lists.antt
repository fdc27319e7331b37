-- The loop over a list of records: what is left to read gives what the whole gives.
use Rattle.std.specs.Prelude.{Ok}
use mathlib.Core.Path.{◌≡◌, refl, sym, ap, ◌∙◌, subst}
use mathlib.Core.Bool.{true, false}
use mathlib.Core.List.{List}
use mathlib.Core.Option.{Option, none, some}
use Prim.Native.Nat.{ℕ, ◌+◌, ◌-◌, ◌≤◌, ◌<◌}
use native.Mathlib.Omega.{arith}
use lib.ListN.{length, get_or, take, drop, length-drop}
use lib.Seq.{drop-cons, drop-drop}
use Rattle.drive_sets.specs.Refusals.{Outcome, refused, yields, and_then}
use Rattle.records.specs.declared.Kind.{Kind}
use Rattle.records.specs.declared.Next.TheVariants.{One}
use Rattle.records.specs.Fields.{from_bytes, field_at}
use Rattle.records.specs.Marks.{body_width, width_at}
use Rattle.records.specs.RecordLists.{next_of, ListFormat, ReadList, step_of, following, read_from, read_list}
use Rattle.records.specs.RecordLists.Laws.{OwnKind, own_width, step_more, end_whole, one_whole, read_complete_law, read_step}
use Rattle.records.proofs.Parts.{rest_is}

-- a field of one byte is the byte
pub first_byte : (s : List ℕ) (i : ℕ) → i < length s → get_or s i 0 ≡ field_at i 1 s
unfolding from_bytes
first_byte s i h = sym (ap (λ (l : List ℕ). from_bytes (take 1 l)) (drop-cons s i 0 h) ∙ omega arith)

module _ {S : Type 0} (f : ListFormat S) where
  -- reading on from `at` in this state gives the whole
  pub record Reading (whole : Outcome (ReadList S)) (s : List ℕ) (state : S) (at : ℕ) : Type 0 where
    pub bytes : ℕ
    pub enough : length s ≤ at + bytes
    pub within : at ≤ length s
    pub same : read_from f bytes state (drop at s) ≡ whole

  pub reading_start : (s : List ℕ) (state : S) (at : ℕ) → at ≤ length s → Reading (read_list f state (drop at s)) s state at
  unfolding read_list
  reading_start s state at h = record { bytes = length (drop at s); enough = omega (arith, length-drop at s); within = h; same = refl }

  module _ (whole : Outcome (ReadList S)) (s : List ℕ) (state : S) (at : ℕ) (r : Reading whole s state at) where
    pub reading_complete : f.complete state (drop at s) ≡ true → yields (record { list = state; rest = drop at s }) ≡ whole
    reading_complete e = sym (read_complete_law f r.bytes state (drop at s) e) ∙ r.same

    -- a step on the part from `at` on
    module _ (going : f.complete state (drop at s) ≡ false) where
      step : {o : Outcome (Option S)} → o ≡ step_of f state (take (length s - at) (drop at s)) → step_of f state (drop at s) ≡ o
      step e = sym (e ∙ ap (step_of f state) (rest_is s at))

      followed : (o : Outcome (Option S)) → o ≡ step_of f state (take (length s - at) (drop at s)) → and_then o (following f (read_from f (r.bytes - 1)) state (drop at s)) ≡ whole
      followed o e =
          ap (λ (x : Outcome (Option S)). and_then x (following f (read_from f (r.bytes - 1)) state (drop at s))) (sym (step e))
          ∙ (sym (read_step f r.bytes state (drop at s) (omega (arith, r.enough, length-drop at s)) going) ∙ r.same)

      pub reading_stop : (q : ℕ) → refused q ≡ step_of f state (take (length s - at) (drop at s)) → refused q ≡ whole
      reading_stop q e = followed (refused q) e

      module _ (e : yields none ≡ step_of f state (take (length s - at) (drop at s))) where
        pub end_within : at + 3 ≤ length s
        end_within = omega (arith, end_whole f state (drop at s) (step e), length-drop at s)

        pub reading_end : yields (record { list = state; rest = drop (at + 3) s }) ≡ whole
        reading_end = ap (λ (l : List ℕ). yields (record { list = state; rest = l })) (sym (drop-drop 3 at s)) ∙ followed (yields none) e

      module _ {t : S} (e : yields (some t) ≡ step_of f state (take (length s - at) (drop at s))) where
        one : next_of (f.due state) (f.count state) (drop at s) ≡ (Ok One)
        one = (step_more f state (drop at s) (step e)).0

        -- the record was taken
        pub step_taken : f.taken state (drop at s) ≡ yields t
        step_taken = (step_more f state (drop at s) (step e)).1

        pub reading_turn : Reading whole s t (at + width_at (drop at s))
        reading_turn = record {
          bytes = r.bytes - 1;
          enough = omega (arith, r.enough);
          within = omega (arith, one_whole (f.due state) (f.count state) (drop at s) one, length-drop at s, r.within);
          same = ap (read_from f (r.bytes - 1) t) (sym (drop-drop (width_at (drop at s)) at s)) ∙ followed (yields (some t)) e;
        }

        -- where all are of one kind
        pub reading_own : (kind : Kind) → OwnKind f kind → Reading whole s t (at + (2 + body_width kind))
        reading_own kind own = subst (λ (width : ℕ). Reading whole s t (at + width)) (own_width f kind own state (f.count state) (drop at s) one) reading_turn
