-- One turn of the reader: what the list makes of the part of the bytes that is left, and what the whole then gives.
use Rattle.std.specs.Prelude.{◌≡◌, true, false, List, ℕ, ◌+◌, ◌-◌, ◌≤◌, ◌<◌, length, take, drop, Option, Some, None, Ok}
use Rattle.std.proofs.Common.{sym, ap, ◌∙◌, arith}
use Rattle.std.proofs.Math.Path.{subst}
use Rattle.drive_sets.specs.Refusals.{Outcome, refused, yields}
use Rattle.records.specs.Marks.{width_at}
use Rattle.records.specs.RecordLists.{ListFormat, ReadList, step_of}
use Rattle.record_lists.specs.Taking.{Taken}
use Rattle.records.proofs.Parts.{rest_is}
use Rattle.records.proofs.Lists.{Reading, reading_complete, reading_stop, end_within, reading_end, reading_turn}

-- what is left of the bytes
abbrev pub left : List ℕ → ℕ → List ℕ
left s at = take (length s - at) (drop at s)

-- the format that the list has now is the one that it began with
module _ {S : Type 0} {now f : ListFormat S} (kept : now ≡ f) {whole : Outcome (ReadList S)} {s : List ℕ} {state : S} {at : ℕ} (r : Reading f whole s state at) where
  complete_is : now.complete state (left s at) ≡ f.complete state (drop at s)
  complete_is = ap (λ (g : ListFormat S). g.complete state (left s at)) kept ∙ ap (f.complete state) (rest_is s at)

  pub ended : now.complete state (left s at) ≡ true → yields (record { list = state; rest = drop at s }) ≡ whole
  ended e = reading_complete f whole s state at r (sym complete_is ∙ e)

  module _ (going : now.complete state (left s at) ≡ false) where
    goes_on : f.complete state (drop at s) ≡ false
    goes_on = sym complete_is ∙ going

    step_is : step_of now state (left s at) ≡ step_of f state (left s at)
    step_is = ap (λ (g : ListFormat S). step_of g state (left s at)) kept

    pub stopped : {q : ℕ} → refused q ≡ step_of now state (left s at) → refused q ≡ whole
    stopped {q} e = reading_stop f whole s state at r goes_on q (e ∙ step_is)

    module _ (new : S) {o : Option ℕ} (taken : Taken now state new (left s at) (Ok o)) where
      taken_as : {p : Option ℕ} → o ≡ p → Taken now state new (left s at) (Ok p)
      taken_as e = subst (λ (p : Option ℕ). Taken now state new (left s at) (Ok p)) e taken

      module _ (e : o ≡ None) where
        pub end_fits : at + 3 ≤ length s
        end_fits = end_within f whole s state at r goes_on ((taken_as e).0 ∙ step_is)

        pub at_end : yields (record { list = new; rest = drop (at + 3) s }) ≡ whole
        at_end =
            ap (λ (x : S). yields (record { list = x; rest = drop (at + 3) s })) (taken_as e).1
            ∙ reading_end f whole s state at r goes_on ((taken_as e).0 ∙ step_is)

      module _ {width : ℕ} (e : o ≡ Some width) where
        pub turned : Reading f whole s new (at + width)
        turned =
            let w = taken_as e in
            subst (λ (k : ℕ). Reading f whole s new (at + k)) (sym (w.1 ∙ ap width_at (rest_is s at))) (reading_turn f whole s state at r goes_on (w.0 ∙ step_is))

        -- a record has at least its mark
        pub goes_far : length s - (at + width) < length s - at
        goes_far = omega (arith, turned.within, (taken_as e).1)
