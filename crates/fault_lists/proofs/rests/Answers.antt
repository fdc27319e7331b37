-- Each mask's rest behind those of the masks that follow it.
use Rattle.std.specs.Prelude.{◌≡◌, refl, List, [], ◌∷◌, ◌++◌, map, ℕ, length}
use Rattle.std.proofs.Common.{sym, ap, ◌∙◌, arith}
use mathlib.Core.List.{map-map, reverse}
use Rattle.std.proofs.lemmas.Grind.{reverse_onto}
use Rattle.std.proofs.lemmas.List.{length-map, length-reverse, map-append}
use Rattle.std.proofs.lemmas.Iterator.Adapters.{YieldsList-from_rev_slice}
use Rattle.std.proofs.lemmas.Iterator.Consumers.{YieldsList-turn, YieldsList-end}
use Rattle.drive_sets.specs.Masks.{outside}
use Rattle.fault_lists.specs.FaultLists.{rests}
use Rattle.fault_lists.proofs.rests.Goals as goal

rests_reverse : (n : ℕ) (l : List ℕ) → map (outside n) (reverse l) ≡ rests n l
unfolding rests
rests_reverse n [] = refl
rests_reverse n (m ∷ l) =
    ap (map (outside n)) (reverse_onto l m [])
    ∙ (map-append (outside n) (reverse l) (m ∷ []) ∙ ap (λ (r : List ℕ). r ++ (outside n m ∷ [])) (rests_reverse n l))

pub loop-mask-init : goal.loop-mask-init
loop-mask-init c = c.new-out.ensures

pub loop-mask-preserved : goal.loop-mask-preserved
loop-mask-preserved c =
    let masks = c.args.masks.now in
    let l = c.loop-mask in
    let each = YieldsList-from_rev_slice masks (cc) in
    let t = YieldsList-turn each l.yielded _ l.yielded_by _ _ c.in-Some.field-0 c.in-Some.is c.next.ensures.steps in
    let put = ap length l.invariant ∙ length-map l.yielded (λ m. outside c.args.n m.now) in
    rw (c.push.ensures.room (omega (arith, t.0, length-reverse masks, c.requires, put)), l.invariant, c.outside.ensures)
    (sym (map-append (λ m. outside c.args.n m.now) l.yielded (c.in-Some.field-0 ∷ [])))

pub returns : goal.returns
returns c =
    let masks = c.args.masks.now in
    let l = c.loop-mask in
    let each = YieldsList-from_rev_slice masks (cc) in
    let all = YieldsList-end each l.yielded _ l.yielded_by _ _ c.in-None.is c.next.ensures.steps in
    l.invariant
    ∙ (sym (map-map (outside c.args.n) (λ m. m.now) l.yielded)
    ∙ (ap (map (outside c.args.n)) all.0 ∙ rests_reverse c.args.n masks))
