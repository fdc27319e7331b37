-- The blocks of a no as they are first formed: each holds the drives outside the named set at its place and in no
-- earlier block. So no drive is in two of them; and where the named sets share no drive, each of the frame is in one.
use Rattle.std.specs.Prelude.{◌≡◌, refl, Bool, true, false, not, ◌&&◌, ◌||◌, List, [], ◌∷◌, ℕ, zero, suc, ◌+◌, ◌^◌, ◌<◌, length, get_or, take}
use Rattle.std.proofs.Common.{sym, ap, ap₂, ◌∙◌, subst, ⊎_elim, add-zero, arith}
use Rattle.std.proofs.Math.Bool.{or_assoc, or-false}
use Rattle.std.proofs.lemmas.Bool.{not-true}
use Rattle.drive_sets.specs.Bools.{as_number}
use Rattle.drive_sets.specs.Bools.Laws.{clash, false_of, same_test, and_intro, and_left, and_right, and_fails_right, false_zero}
use Rattle.drive_sets.specs.Lists.{filter, all, any}
use Rattle.drive_sets.specs.Lists.Counts.{length_filter_cons}
use Rattle.drive_sets.specs.Lists.Laws.{elem_none, elem_cases, all_elem}
use Rattle.drive_sets.specs.Masks.{has, full, union, outside, Below}
use Rattle.drive_sets.specs.Masks.Laws.{has_none, has_union}
use Rattle.drive_sets.specs.Masks.Outside.{outside_lt, has_outside}
use Rattle.splits.specs.Splits.{holders}
use Rattle.verdict_search.specs.Verdicts.{blocks_of}
use Rattle.verdict_search.specs.Sharing.{Shared}

pub length_blocks : (n taken : ℕ) (named : List ℕ) → length (blocks_of n taken named) ≡ length named
unfolding blocks_of
length_blocks n taken [] = refl
length_blocks n taken (s ∷ named) = ap suc (length_blocks n (union taken (outside n (union s taken))) named)

pub blocks_below : (n taken : ℕ) (named : List ℕ) → Below n (blocks_of n taken named)
unfolding blocks_of
blocks_below n taken [] b e = absurd (clash e (elem_none b))
blocks_below n taken (s ∷ named) b e =
    ⊎_elim
    (λ q. subst (λ (x : ℕ). x < 2 ^ n) (sym q) (outside_lt n (union s taken)))
    (λ q. blocks_below n (union taken (outside n (union s taken))) named b q)
    (elem_cases b (outside n (union s taken)) _ e)

-- ---- the rule

first_block : (a t : Bool) → not (a || t) ≡ (not a && not (t || false))
first_block true t = refl
first_block false t = ap not (sym (or-false t))

-- where the drives of `taken` are in earlier blocks
rule_from : (n d : ℕ) (named : List ℕ) (taken i : ℕ) → i < length named
    → has d (get_or (blocks_of n taken named) i 0)
    ≡ (has d (full n) && (not (has d (get_or named i 0)) && not (has d taken || any (has d) (take i (blocks_of n taken named)))))
unfolding blocks_of any
rule_from n d [] taken i h = absurd (omega arith)
rule_from n d (s ∷ named) taken zero h =
    has_outside d n (union s taken)
    ∙ ap (λ (b : Bool). has d (full n) && b) (ap not (has_union d s taken) ∙ first_block (has d s) (has d taken))
rule_from n d (s ∷ named) taken (suc i) h =
    rule_from n d named (union taken block) i (omega arith)
    ∙ ap (λ (b : Bool). has d (full n) && (not (has d (get_or named i 0)) && not b))
    (ap (λ (b : Bool). b || earlier) (has_union d taken block) ∙ or_assoc (has d taken) (has d block) earlier)
  where
    block : ℕ
    block = outside n (union s taken)

    earlier : Bool
    earlier = any (has d) (take i (blocks_of n (union taken block) named))

module _ (n : ℕ) (named : List ℕ) where
  abbrev blocks : List ℕ
  blocks = blocks_of n 0 named

  pub blocks_rule : (i d : ℕ) → i < length named
      → has d (get_or blocks i 0) ≡ (has d (full n) && (not (has d (get_or named i 0)) && not (any (has d) (take i blocks))))
  blocks_rule i d h =
      rule_from n d named 0 i h
      ∙ ap (λ (b : Bool). has d (full n) && (not (has d (get_or named i 0)) && not (b || any (has d) (take i blocks)))) (has_none d)

  -- a drive of a block is not in the set that is named at its place
  pub not_named : (i d : ℕ) → i < length named → has d (get_or blocks i 0) ≡ true → has d (get_or named i 0) ≡ false
  not_named i d h e =
      not-true (has d (get_or named i 0)) (and_left (not (has d (get_or named i 0))) _ (and_right (has d (full n)) _ (sym (blocks_rule i d h) ∙ e)))

-- ---- each drive of the frame in exactly one block

-- f: of the frame; t: taken; a: in the first of the sets; r: in all others
one_more : (f t a r : Bool) → as_number (f && (not (t || (f && not (a || t))) && not r)) + as_number (f && not (a || t)) ≡ as_number (f && (not t && not (a && r)))
one_more false t a r = refl
one_more true true true r = refl
one_more true true false r = refl
one_more true false true r = add-zero _
one_more true false false r = refl

-- a drive is in one block, if it is of the frame, not taken and not in all of the named sets, and else in none
holders_from : (n d : ℕ) (named : List ℕ) (taken : ℕ) → holders d (blocks_of n taken named) ≡ as_number (has d (full n) && (not (has d taken) && not (all (has d) named)))
unfolding blocks_of all filter
holders_from n d [] taken = sym (false_zero (and_fails_right (has d (full n)) (and_fails_right (not (has d taken)) refl)))
holders_from n d (s ∷ named) taken =
    let block = outside n (union s taken) in
    let here = has_outside d n (union s taken) ∙ ap (λ (b : Bool). has d (full n) && not b) (has_union d s taken) in
    let now = has_union d taken block ∙ ap (λ (b : Bool). has d taken || b) here in
    length_filter_cons (has d) block (blocks_of n (union taken block) named)
    ∙ (ap₂ (λ (x y : ℕ). x + y)
    (holders_from n d named (union taken block) ∙ ap (λ (b : Bool). as_number (has d (full n) && (not b && not (all (has d) named)))) now)
    (ap as_number here)
    ∙ one_more (has d (full n)) (has d taken) (has d s) (all (has d) named))

-- where the named sets share no drive
pub blocks_one : (n : ℕ) (named : List ℕ) → (Shared (full n) named → ⊥) → (d : ℕ) → holders d (blocks_of n 0 named) ≡ as_number (has d (full n))
blocks_one n named share_none d =
    holders_from n d named 0
    ∙ ap as_number
    (same_test _ (has d (full n)) (λ h. and_left (has d (full n)) _ h) (λ h.
    and_intro h (and_intro (ap not (has_none d)) (ap not (false_of (all (has d) named) (λ a. share_none (d, h, λ s i. all_elem (has d) named s a i)))))))
