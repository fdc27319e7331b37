-- The loop over the drives, and what the simulated exchange gave as a reply.
use mathlib.Core.Path.{◌≡◌, refl, sym, ap, ap₂, ◌∙◌}
use mathlib.Core.Bool.{Bool}
use mathlib.Core.List.{List, ◌∷◌, map}
use Prim.Native.Nat.{ℕ, suc, ◌+◌, ◌-◌, ◌≤◌, ◌<◌}
use native.Mathlib.Nat.{sub-zero}
use native.Mathlib.Numerals.{add-one}
use native.Mathlib.Omega.{arith}
use lib.ListN.{get_or, set, replicate}
use Rattle.std.specs.Prelude.{Option, None, Result, Ok, Err, OnOk}
use Rattle.drive_sets.specs.declared.Refusal.{Refusal}
use Rattle.drive_sets.specs.Limits.{max_drives}
use Rattle.drive_sets.specs.Lists.{range}
use Rattle.drive_sets.specs.Masks.{has}
use Rattle.drive_sets.specs.Loops.Filling.{Filling, filling_start, filling_turn, filling_end}
use Rattle.drive_sets.specs.Refusals.{Outcome, yields}
use Rattle.drive_sets.specs.Refusals.Laws.{first_result}
use Rattle.agreement.specs.RoundEndings.{Ending}
use Rattle.runs.specs.CrashRecords.{CrashRecord}
use Rattle.survivor_tables.specs.Tables.{chosen, normal_table}
use Rattle.survivor_tables.proofs.Tables.Laws.{table_accepted}
use Rattle.run_files.specs.RunFiles.{RunFile, read_run_file}
use Rattle.simulation.specs.Simulation.{Simulated, checked_crashes, unless_touched, simulated}
use Rattle.simulated_decisions.specs.declared.noting.First.{First}
use Rattle.simulated_decisions.specs.Endings.{ending_for, ending_at, first_of, found_of}
use Rattle.simulation.specs.Endings.{endings_in, told_by, simulated_outcome}
use Rattle.simulation.specs.declared.simulating.Simulated as simulations
use Rattle.run_listing.specs.RunListing.{simulated_with}
use Rattle.simulation_replies.specs.declared.DriveEnding.{DriveEnding}
use Rattle.simulation_replies.specs.declared.SimulationReply.{SimulationReply}
use Rattle.simulation_replies.specs.Replies.{no_ending, drive_ending, in_drives, simulation_reply}

-- ---- the loop

module _ (n : ℕ) (ending : ℕ → Ending) where
  -- how the drives behind drive i end
  abbrev behind : ℕ → List DriveEnding
  behind i = map drive_ending (map ending (range (suc i) (n - i)))

  -- the drives 1 to i are put
  pub record Putting (drives : List DriveEnding) (i : ℕ) : Type 0 where
    pub within : i ≤ n
    pub filling : Filling (replicate max_drives no_ending) drives i (behind i) (behind 0)

  pub putting_start : Putting (replicate max_drives no_ending) 0
  putting_start = record { within = omega arith; filling = filling_start (replicate max_drives no_ending) (behind 0) }

  next : (i : ℕ) → i < n → behind i ≡ drive_ending (ending (i + 1)) ∷ behind (i + 1)
  unfolding range
  next i h =
      let k : ℕ = n - (i + 1) in
      let more : n - i ≡ suc k = omega arith in
      ap (λ (j : ℕ). map drive_ending (map ending (range (suc i) j))) more
      ∙ ap (λ (j : ℕ). drive_ending (ending j) ∷ map drive_ending (map ending (range (suc j) k))) (sym (add-one i))

  pub putting_turn : (drives : List DriveEnding) (i : ℕ) → Putting drives i → i < n → n ≤ max_drives → (e : DriveEnding) → e ≡ drive_ending (ending (i + 1))
      → Putting (set drives i e) (i + 1)
  putting_turn drives i p h few e f = record {
    within = omega arith;
    filling = filling_turn p.filling (omega (arith, h, few)) e (behind (i + 1)) (next i h ∙ ap (λ (x : DriveEnding). x ∷ behind (i + 1)) (sym f));
  }

  pub putting_end : (drives : List DriveEnding) (i : ℕ) → Putting drives i → n ≤ i → drives ≡ in_drives (map ending (range 1 n))
  unfolding in_drives range
  putting_end drives i p h =
      let none : n - i ≡ 0 = omega arith in
      filling_end p.filling (ap (λ (k : ℕ). map drive_ending (map ending (range (suc i) k))) none)
      ∙ ap (λ (k : ℕ). in_drives (map ending (range 1 k))) (sub-zero n)

module _ (n crashed : ℕ) (found : List (Option First)) where
  -- one more drive, from what stands at its place
  pub drive_turn : (drives : List DriveEnding) (i : ℕ) → Putting n (ending_at crashed found) drives i → i < n → n ≤ max_drives
      → (crashes : Bool) → crashes ≡ has (i + 1) crashed
      → (e : DriveEnding) → e ≡ drive_ending (ending_for crashes (get_or found i None))
      → Putting n (ending_at crashed found) (set drives i e) (i + 1)
  unfolding ending_at first_of
  drive_turn drives i p h few crashes q e f =
      let place : i ≡ i + 1 - 1 = omega arith in
      putting_turn n (ending_at crashed found) drives i p h few e
      (f ∙ ap₂ (λ (b : Bool) (j : ℕ). drive_ending (ending_for b (get_or found j None))) q place)

-- ---- the reply

pub reply_told : (n : ℕ) (s : simulations.Simulated) → ◌≡◌ {A = SimulationReply}
    (record { drives = in_drives (map (ending_at s.crashed s.found) (range 1 n)); core = s.core; stops = s.stops; refusal = 0 }) (simulation_reply (yields (told_by n s)))
unfolding told_by endings_in ending_at ending_for found_of
reply_told n s = refl

-- what is accepted has a frame
module _ (n : ℕ) (sets : List ℕ) where
  pub frame_of : (numbers : List ℕ) (crs : List CrashRecord) {x : Simulated} → simulated n sets numbers crs ≡ yields x → n ≤ max_drives
  unfolding simulated
  frame_of numbers crs e =
      let w = first_result (normal_table n sets) (λ table. checked_crashes n (chosen table) 0 crs (unless_touched n sets numbers crs)) e in
      (table_accepted n sets w.0 w.1).0.high

  pub frame_of_file : (run : List ℕ) {x : Simulated} → simulated_with n sets run ≡ yields x → n ≤ max_drives
  unfolding simulated_with
  frame_of_file run e =
      let w = first_result (read_run_file n sets run) (λ (f : RunFile). simulated n sets f.numbers f.crashes) e in
      frame_of w.0.numbers w.0.crashes w.2

  pub frame_told : (r : Result simulations.Simulated Refusal) {o : Outcome Simulated} → simulated_outcome n r ≡ o → ((x : Simulated) → o ≡ yields x → n ≤ max_drives) → OnOk r (n ≤ max_drives)
  unfolding simulated_outcome
  frame_told (Ok s) e f = f (told_by n s) (sym e)
  frame_told (Err q) e f = tt {0}
