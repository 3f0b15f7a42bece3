-- A BOR write with D7 set does what the same write without D7 does, followed by an outside clock.
use Prim.Native.Nat.{ℕ, ◌+◌, ◌%◌}
use mathlib.Core.Path.{◌≡◌, refl, sym, ap, ◌∙◌}
use mathlib.Core.Bool.{Bool, true, false, cond}
use mathlib.Core.List.{List, []}
use native.Mathlib.Omega.{arith}
use Rattle.laws.specs.Types.{Core, Event, write, signal, outside}
use Rattle.rules.specs.Bits.{bit}
use Rattle.rules.specs.Record.{State, depth, stored}
use Rattle.rules.specs.Clocks.{clear, fate_number, Play, only, moving, moves, clock, clock_accepted, on_outside}
use Rattle.rules.specs.declared.Fate.TheVariants.{NoLoad as none}
use Rattle.rules.specs.Writes.{load_kept, load_asked, buffer_of, tried, write_buffer, on_write}
use Rattle.rules.specs.Play.{on_signal, play}
use Rattle.rules.specs.Place.{Place, place, place_of}
use Rattle.rules.specs.Size.{code_of, size_after}
use Rattle.rules.specs.Refusals.{rows, refusal}
use Rattle.rules.specs.Step.{reading, played, board_before, done}
use Rattle.rules.specs.Laws.Soundness.{Stands}
use Rattle.rules.specs.Laws.Refusals.{Ordinary, heard, a_clock}
use Rattle.laws.specs.Moved.{SameButRequest, Software-clock}
use Rattle.rules.proofs.Choice.{either}
use Rattle.laws.specs.Lists.{on_list}
use Rattle.laws.proofs.Allowed.{moving_le}
use Rattle.rules.proofs.Steps.{step_done}
use Rattle.laws.proofs.Kept.{event_kept, stands_fit}
use Rattle.laws.proofs.AddedBits.{bit_added, bit_others}
use Rattle.laws.proofs.Lasting.{done_stands}
use Rattle.rules.proofs.Refusals.{refusal_exactly, refusal_stands}

-- ---- One play that does what two do

record AsTwo (d : ℕ) (q : Place) (both first second : Play) : Type 0 where
  moved : both.moved ≡ second.moved
  fate : both.fate ≡ second.fate
  core : both.core ≡ second.core
  places : place d both.op q ≡ place d second.op (place d first.op q)

-- an outside clock after a play, on what that leaves
abbrev then_clock : List ℕ → Play → Play
then_clock buf p = on_outside p.core (on_list p.op buf)

-- a clock that finds nothing stored
outside_empty : (c : Core) → on_outside c [] ≡ only c
unfolding on_outside clock moves
outside_empty c =
    let z : moving c [] ≡ 0 = omega (arith, moving_le c []) in
    either (λ p. p ≡ only c) (clock_accepted c) (ap (moves c []) z) refl

-- ---- The two writes

module _ (c : Core) (buf : List ℕ) (v : ℕ) (z : bit 7 v ≡ false) where
  -- D7 is read for the clock alone
  buffer_same : buffer_of (v + 0x80) c ≡ buffer_of v c
  unfolding buffer_of load_kept load_asked
  buffer_same =
      rw (
        bit_others 7 4 v z (omega arith),
        bit_others 7 5 v z (omega arith),
        bit_others 7 8 v z (omega arith),
        bit_others 7 9 v z (omega arith),
        bit_others 7 11 v z (omega arith),
        bit_others 7 16 v z (omega arith),
        bit_others 7 17 v z (omega arith),
      )

  -- by D11: the values are emptied, or p is played
  abbrev emptied_or : Play → Bool → Play
  emptied_or p d11 = cond d11 (record { core = buffer_of v c; op = clear; moved = 0; fate = none }) p

  with_clock_lem : write_buffer c buf (v + 0x80) ≡ emptied_or (on_outside (buffer_of v c) buf) (bit 11 v)
  unfolding write_buffer tried
  with_clock_lem = rw (bit_others 7 11 v z (omega arith), bit_added 7 v z, buffer_same)

  without_clock : write_buffer c buf v ≡ emptied_or (only (buffer_of v c)) (bit 11 v)
  unfolding write_buffer tried
  without_clock = rw z

  either_as_two : (d : ℕ) (q : Place) (d11 : Bool)
      → AsTwo d q (emptied_or (on_outside (buffer_of v c) buf) d11) (emptied_or (only (buffer_of v c)) d11) (then_clock buf (emptied_or (only (buffer_of v c)) d11))
  unfolding place on_list
  either_as_two d q true = rw (outside_empty (buffer_of v c)) (record { moved = refl; fate = refl; core = refl; places = refl })
  either_as_two d q false = record { moved = refl; fate = refl; core = refl; places = refl }

  write_as_two : (d : ℕ) (q : Place) → AsTwo d q (write_buffer c buf (v + 0x80)) (write_buffer c buf v) (then_clock buf (write_buffer c buf v))
  write_as_two d q = rw (with_clock_lem, without_clock) (either_as_two d q (bit 11 v))

-- ---- The write, and the clock after it

-- the two writes are refused alike, and an outside clock is never refused after a write that is not
write_open : (s : State) (v : ℕ) → refusal s (write 0x0C (v + 0x80)) ≡ 0 → refusal s (write 0x0C v) ≡ 0
unfolding refusal rows
write_open s v h = h

clock_open : (s : State) (e : Event) → Ordinary e → Stands s → refusal (done s e).state (signal outside) ≡ 0
clock_open s e o st = (refusal_exactly _ (signal outside) 0).1 (heard a_clock (done_stands s e o st))

done_as_two : (s : State) (v : ℕ) → Stands s → bit 7 v ≡ false
    → SameButRequest (done s (write 0x0C (v + 0x80))) (done (done s (write 0x0C v)).state (signal outside))
unfolding done board_before reading play on_write on_signal size_after code_of
done_as_two s v st z =
    let d : ℕ = depth s.board in
    let first : Play = write_buffer s.board.core (stored s) v in
    let t = write_as_two s.board.core (stored s) v z d (place_of s) in
    let r : then_clock (stored s) first ≡ played (done s (write 0x0C v)).state (signal outside) =
    ap (on_outside first.core) (sym (event_kept s (write 0x0C v) tt (stands_fit s st)).lists) in
    let q = t.places ∙ ap (λ (p : Play). place d p.op (place d first.op (place_of s))) r in
    let moved = t.moved ∙ ap (λ (p : Play). p.moved) r in
    let fate = t.fate ∙ ap (λ (p : Play). p.fate) r in
    let code : (v + 0x80) % 16 ≡ v % 16 = omega arith in
    record {
      answer = λ i. record { refusal = 0; register = 0; moved = moved i; fate = fate_number (fate i) };
      core = t.core ∙ ap (λ (p : Play). p.core) r;
      size = rw code;
      ring = ap (λ (p : Place). p.ring) q;
      memory = ap (λ (p : Place). p.memory) q;
    }

pub software_clock : Software-clock
software_clock s v h z =
    let st = refusal_stands s (write 0x0C (v + 0x80)) tt h in
    rw (
      step_done s (write 0x0C (v + 0x80)) h,
      step_done s (write 0x0C v) (write_open s v h),
      step_done _ (signal outside) (clock_open s (write 0x0C v) tt st),
    ) (done_as_two s v st z)
