-- Laws of worlds: a call touches the drive that it names alone, a refused one touches none; what a call gives a drive,
-- and so what calls keep of it; lists of calls one after the other, and the calls that name a drive.
use Rattle.std.specs.Prelude.{◌≡◌, true, false, cond, ℕ, eqb}
use Rattle.std.proofs.Math.Path.{refl, sym, ap}
use Rattle.std.proofs.Common.{◌∙◌, subst}
use mathlib.Core.List.{List, [], ◌∷◌, ◌++◌}
use borrow.Author.Tests.{eqb-true, eq-eqb}
use Rattle.drive_sets.specs.Bools.Laws.{clash, by_test, cond_true, cond_false}
use Rattle.drive_sets.specs.Refusals.{Outcome, refused, yields}
use Rattle.drive_states.specs.declared.Exchange.{Exchange}
use Rattle.runs.specs.Protocol.{Protocol}
use Rattle.runs.specs.World.{Call, opens, sends, delivers, closes, drive_of, Slot, unopened, opened, World, put, after_call, on_state, apply, apply_all, is_refused, refused_by, refused_in}

module _ (P : Protocol) where
  pub apply_all_append : (w : World) (a b : List Call) → apply_all P w (a ++ b) ≡ apply_all P (apply_all P w a) b
  unfolding apply_all
  apply_all_append w [] b = refl
  apply_all_append w (c ∷ a) b = apply_all_append (apply P w c) a b

module _ (w : World) (d : ℕ) (slot : Slot) where
  pub put_same : put w d slot d ≡ slot
  unfolding put
  put_same = cond_true _ _ (eq-eqb d d refl)

  pub put_other : (e : ℕ) → eqb e d ≡ false → put w d slot e ≡ w e
  unfolding put
  put_other e h = cond_false _ _ h

  -- at the drive named, and at the others
  pub put_cases {ℓ} : (P : Slot → Type ℓ) (e : ℕ) → (e ≡ d → P slot) → P (w e) → P (put w d slot e)
  put_cases P e here there =
      by_test (eqb e d)
      (λ h. let is = eqb-true e d h in subst P (sym (ap (put w d slot) is ∙ put_same)) (here is))
      (λ h. subst P (sym (put_other e h)) there)

module _ (P : Protocol) where
  -- a call touches the drive that it names alone
  pub apply_other : (w : World) (c : Call) (e : ℕ) → eqb e (drive_of c) ≡ false → apply P w c e ≡ w e
  unfolding apply drive_of
  apply_other w (opens d n sets own number) e h = put_other w d _ e h
  apply_other w (sends d room start) e h = refl
  apply_other w (delivers d bytes) e h = put_other w d _ e h
  apply_other w (closes d) e h = put_other w d _ e h

-- ---- what a call gives

-- c, made on the world w, is not refused and gives drive d the state y
pub data Gives (P : Protocol) (w : World) (d : ℕ) : Call → Exchange → Type 0 where
  by_opening : {n : ℕ} {sets : List ℕ} {own number : ℕ} {y : Exchange} → P.opening n sets own number ≡ yields y → Gives P w d (opens d n sets own number) y
  by_message : {x y : Exchange} {bytes : List ℕ} → w d ≡ opened x → P.receiving x bytes ≡ yields y → Gives P w d (delivers d bytes) y
  by_close : {x y : Exchange} → w d ≡ opened x → P.closing x ≡ yields y → Gives P w d (closes d) y

module _ {ℓ} (K : Slot → Type ℓ) where
  after_call_law : (slot : Slot) (o : Outcome Exchange) → K slot → ((y : Exchange) → o ≡ yields y → K (opened y)) → K (after_call slot o)
  unfolding after_call
  after_call_law slot (refused r) same given = same
  after_call_law slot (yields y) same given = given y refl

  on_state_law : (call : Exchange → Outcome Exchange) (slot : Slot) → K slot → ((x y : Exchange) → slot ≡ opened x → call x ≡ yields y → K (opened y))
      → K (on_state call slot)
  unfolding on_state
  on_state_law call unopened same given = same
  on_state_law call (opened x) same given = after_call_law (opened x) (call x) same (λ y e. given x y refl e)

module _ (P : Protocol) where
  -- so what holds of d's state, and of the one that the call gives d, holds after the call
  pub call_keeps {ℓ} : (K : Slot → Type ℓ) (w : World) (c : Call) (d : ℕ) → K (w d) → ((y : Exchange) → Gives P w d c y → K (opened y)) → K (apply P w c d)
  unfolding apply
  call_keeps K w (opens e n sets own number) d same given =
      put_cases w e _ K d (λ is. after_call_law K (w e) (P.opening n sets own number) (rw is at same) (λ y q. given y (rw is (by_opening q)))) same
  call_keeps K w (sends e room start) d same given = same
  call_keeps K w (delivers e bytes) d same given =
      put_cases w e _ K d (λ is. on_state_law K (λ x. P.receiving x bytes) (w e) (rw is at same) (λ x y there q. given y (rw is (by_message there q)))) same
  call_keeps K w (closes e) d same given =
      put_cases w e _ K d (λ is. on_state_law K P.closing (w e) (rw is at same) (λ x y there q. given y (rw is (by_close there q)))) same

  -- what every call keeps, every list of calls keeps
  pub calls_filter {ℓ} : (K : World → Type ℓ) → ((w : World) (c : Call) → K w → K (apply P w c)) → (w : World) (cs : List Call) → K w → K (apply_all P w cs)
  unfolding apply_all
  calls_filter K step w [] h = h
  calls_filter K step w (c ∷ cs) h = calls_filter K step (apply P w c) cs (step w c h)

  accepted_gives : {w : World} {c : Call} {d : ℕ} {y : Exchange} → Gives P w d c y → refused_in P w c ≡ false
  unfolding refused_in drive_of refused_by is_refused
  accepted_gives (by_opening q) = ap is_refused q
  accepted_gives {d = d} (by_message {bytes = bytes} there q) = ap (λ slot. refused_by P slot (delivers d bytes)) there ∙ ap is_refused q
  accepted_gives {d = d} (by_close there q) = ap (λ slot. refused_by P slot (closes d)) there ∙ ap is_refused q

  -- a refused call leaves the world as it was
  pub refused_keeps : (w : World) (c : Call) → refused_in P w c ≡ true → (e : ℕ) → apply P w c e ≡ w e
  refused_keeps w c h e = call_keeps (λ slot. slot ≡ w e) w c e refl (λ y g. absurd (clash h (accepted_gives g)))

-- ---- the calls that name a drive

unfoldable pub naming : ℕ → List Call → List Call
naming d [] = []
naming d (c ∷ cs) =
    let rest = naming d cs in
    cond (eqb d (drive_of c)) (c ∷ rest) rest

module _ (P : Protocol) where
  -- what a call leaves of the drive that it names depends on that drive's state alone
  apply_here : (w w' : World) (c : Call) → w (drive_of c) ≡ w' (drive_of c) → apply P w c (drive_of c) ≡ apply P w' c (drive_of c)
  unfolding apply drive_of
  apply_here w w' (opens d n sets own number) e = put_same w d _ ∙ (ap (λ slot. after_call slot (P.opening n sets own number)) e ∙ sym (put_same w' d _))
  apply_here w w' (sends d room start) e = e
  apply_here w w' (delivers d bytes) e = put_same w d _ ∙ (ap (on_state (λ x. P.receiving x bytes)) e ∙ sym (put_same w' d _))
  apply_here w w' (closes d) e = put_same w d _ ∙ (ap (on_state P.closing) e ∙ sym (put_same w' d _))

  named_from : (d : ℕ) (w w' : World) (cs : List Call) → w d ≡ w' d → apply_all P w cs d ≡ apply_all P w' (naming d cs) d
  unfolding apply_all naming
  named_from d w w' [] e = e
  named_from d w w' (c ∷ cs) e =
      by_test (eqb d (drive_of c))
      (λ h. let is = eqb-true d (drive_of c) h in
      named_from d (apply P w c) (apply P w' c) cs
      (subst (λ (x : ℕ). apply P w c x ≡ apply P w' c x) (sym is) (apply_here w w' c (subst (λ (x : ℕ). w x ≡ w' x) is e)))
      ∙ sym (ap (λ l. apply_all P w' l d) (cond_true _ _ h)))
      (λ h. named_from d (apply P w c) w' cs (apply_other P w c d h ∙ e) ∙ sym (ap (λ l. apply_all P w' l d) (cond_false _ _ h)))

  -- what a list of calls leaves of a drive is what those of them that name it leave
  pub named_alone : (d : ℕ) (w : World) (cs : List Call) → apply_all P w cs d ≡ apply_all P w (naming d cs) d
  named_alone d w cs = named_from d w w cs refl
