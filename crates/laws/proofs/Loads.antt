-- Loads: fates exactly as specs/Loads says, and where a stored value stands.
use Prim.Native.Nat.{ℕ, zero, suc, ◌+◌, ◌%◌, ◌≤◌, ◌<◌}
use mathlib.Core.Path.{◌≡◌, refl, sym, ap, subst, ◌∙◌}
use mathlib.Core.Bool.{Bool, true, false}
use mathlib.Core.List.{List, [], ◌∷◌, ◌++◌}
use native.Mathlib.Nat.{mod-mod, mod-lt}
use native.Mathlib.Omega.{arith}
use borrow.Author.Tests.{leb-true, leb-false, lt-leb, eqb-true}
use lib.Dec.{eqb}
use lib.ListN.{length, get_or}
use lib.Seq.{get_or-set_same, get_or-set_other}
use Rattle.laws.specs.Types.{Core, Lost, Event, power_up, write, read, signal, Signal, tick, outside, trigger, passed, failed, settled}
use Rattle.rules.specs.Bits.{bit}
use Rattle.rules.specs.Record.{State, active_size, depth, stored, value_span}
use Rattle.rules.specs.Parts.{with_lost}
use Rattle.rules.specs.Clocks.{Op, keep, store, fate_number, Play, closed, moving, moves, clock, tick_accepted, clock_accepted, on_tick, on_outside, on_trigger}
use Rattle.rules.specs.declared.Fate.{Fate}
use Rattle.rules.specs.declared.Fate.TheVariants.{NoLoad as none, Stored as was_stored, LostToFull as lost_to_full, LostToClosed as lost_to_closed}
use Rattle.rules.specs.Flags.{is_full}
use Rattle.rules.specs.Writes.{write_control, write_mask, write_rate, write_adjust, buffer_of, tried, write_buffer, write_data, on_write}
use Rattle.rules.specs.Play.{calibration_ends, settles, on_signal, play}
use Rattle.rules.specs.Place.{Place, place_store, place, place_of}
use Rattle.rules.specs.Size.{code_of, size_after}
use Rattle.rules.specs.Refusals.{refusal}
use Rattle.rules.specs.Step.{Outcome, refused, played, placed, board_before, done, step}
use Rattle.rules.specs.Laws.Refused.{SameRoom}
use Rattle.rules.specs.Laws.Stays.{AllStay, all, ◌also◌}
use Rattle.laws.specs.Loads.{besides_lost, Loaded, Load-loaded, IsLoad, Fate-none}
use Rattle.laws.specs.Places.{Load-place}
use Rattle.rules.proofs.Choice.{either}
use Rattle.laws.specs.Lists.{on_list}
use Rattle.rules.proofs.Sizes.{depth_pos}
use Rattle.laws.proofs.Offsets.{write_cases}
use Rattle.rules.proofs.States.{closed_exactly, closed_not}
use Rattle.rules.proofs.Steps.{step_done, step_refused, step_cases, stored_length}
use Rattle.laws.specs.Kept.{Kept}
use Rattle.laws.proofs.Kept.{event_kept, stands_fit}
use Rattle.rules.proofs.Refusals.{refusal_stands}

-- overflow flags put anew leave all else
lost_alone : (c : Core) (x : Lost) (c' : Core) → c' ≡ with_lost x c → AllStay c c' besides_lost
lost_alone c x c' e = subst (λ (y : Core). AllStay c y besides_lost) (sym e) (refl also refl also refl also refl also refl also refl also refl also refl also refl also refl also refl also all)

module _ (s : State) (v : ℕ) where
  -- whether the active buffer is full
  full : Bool
  full = is_full s.board.size s.board.ring.count

  -- ---- The three plays

  abbrev lost_play : Fate → Bool → Bool → Play
  lost_play f x y = record { core = with_lost (record { full = x; closed = y }) s.board.core; op = keep; moved = 0; fate = f }

  abbrev stored_play : Play
  stored_play = record { core = s.board.core; op = store (v % value_span); moved = 0; fate = was_stored }

  played_closed : closed s.board.core ≡ true → played s (write 0x18 v) ≡ lost_play lost_to_closed s.board.core.lost.full true
  unfolding play on_write write_data
  played_closed h = rw h

  played_full : closed s.board.core ≡ false → full ≡ true → played s (write 0x18 v) ≡ lost_play lost_to_full true s.board.core.lost.closed
  unfolding full play on_write write_data
  played_full h k = rw (h, k)

  played_room : closed s.board.core ≡ false → full ≡ false → played s (write 0x18 v) ≡ stored_play
  unfolding full play on_write write_data
  played_room h k = rw (h, k)

  -- ---- What they leave

  module _ (h : refusal s (write 0x18 v) ≡ 0) where
    -- the load's outcome
    o : Outcome
    o = done s (write 0x18 v)

    after_play_lem : (p : Play) → played s (write 0x18 v) ≡ p
        → (o.answer.fate ≡ fate_number p.fate) × (o.state.board.core ≡ p.core) × (stored o.state ≡ on_list p.op (stored s))
    unfolding o done board_before
    after_play_lem p e =
        let k : Kept s (write 0x18 v) = event_kept s (write 0x18 v) tt (stands_fit s (refusal_stands s (write 0x18 v) tt h)) in
        (ap (λ (q : Play). fate_number q.fate) e, ap (λ (q : Play). q.core) e, k.lists ∙ ap (λ (q : Play). on_list q.op (stored s)) e)

    size_same : o.state.board.size ≡ s.board.size
    unfolding o done board_before size_after code_of
    size_same = refl

    -- a play that keeps the values
    room_same : (p : Play) → played s (write 0x18 v) ≡ p → p.op ≡ keep → SameRoom s o.state
    unfolding o done board_before place
    room_same p e k =
        let q : placed s (write 0x18 v) ≡ place_of s = ap (λ (x : Op). place (depth s.board) x (place_of s)) (ap (λ (x : Play). x.op) e ∙ k) in
        record { size = size_same; ring = ap (λ (x : Place). x.ring) q; memory = ap (λ (x : Place). x.memory) q }

    loaded_closed : closed s.board.core ≡ true → Loaded s v o
    unfolding on_list
    loaded_closed c =
        let t = after_play_lem _ (played_closed c) in
        let f : o.answer.fate ≡ 3 = t.0 in
        let k = (closed_exactly s.board.core).0 c in
        record {
          shut = (λ _. k, λ _. f);
          full = (λ z. absurd (omega arith), λ z. absurd (z.0 k));
          room = (λ z. absurd (omega arith), λ z. absurd (z.0 k));
          appended = λ z. absurd (omega arith);
          lost_to_full = λ z. absurd (omega arith);
          lost_to_closed = λ _. (t.2, ap (λ (x : Core). x.lost.full) t.1, ap (λ (x : Core). x.lost.closed) t.1, lost_alone s.board.core _ _ t.1);
          lost_room = λ _. room_same _ (played_closed c) refl;
          size = size_same;
        }

    loaded_full : closed s.board.core ≡ false → full ≡ true → Loaded s v o
    unfolding on_list full
    loaded_full c g =
        let t = after_play_lem _ (played_full c g) in
        let f : o.answer.fate ≡ 2 = t.0 in
        let k = (closed_not s.board.core).0 c in
        let l : active_size s.board.size ≤ length (stored s) = rw stored_length (leb-true _ _ g) in
        record {
          shut = (λ z. absurd (omega arith), λ z. absurd (k z));
          full = (λ _. (k, l), λ _. f);
          room = (λ z. absurd (omega arith), λ z. absurd (omega arith));
          appended = λ z. absurd (omega arith);
          lost_to_full = λ _. (t.2, ap (λ (x : Core). x.lost.full) t.1, ap (λ (x : Core). x.lost.closed) t.1, lost_alone s.board.core _ _ t.1);
          lost_to_closed = λ z. absurd (omega arith);
          lost_room = λ _. room_same _ (played_full c g) refl;
          size = size_same;
        }

    loaded_room : closed s.board.core ≡ false → full ≡ false → Loaded s v o
    unfolding on_list full
    loaded_room c g =
        let t = after_play_lem _ (played_room c g) in
        let f : o.answer.fate ≡ 1 = t.0 in
        let k = (closed_not s.board.core).0 c in
        let l : length (stored s) < active_size s.board.size = rw stored_length (leb-false _ _ g) in
        record {
          shut = (λ z. absurd (omega arith), λ z. absurd (k z));
          full = (λ z. absurd (omega arith), λ z. absurd (omega arith));
          room = (λ _. (k, l), λ _. f);
          appended = λ _. (t.2 ∙ ap (λ (x : ℕ). stored s ++ (x ∷ [])) (mod-mod v value_span), t.1);
          lost_to_full = λ z. absurd (omega arith);
          lost_to_closed = λ z. absurd (omega arith);
          lost_room = λ z. absurd (z f);
          size = size_same;
        }

    loaded : Loaded s v o
    loaded = go (closed s.board.core) refl full refl
      where
        go : (c : Bool) → closed s.board.core ≡ c → (g : Bool) → full ≡ g → Loaded s v o
        go true c g k = loaded_closed c
        go false c true k = loaded_full c k
        go false c false k = loaded_room c k

pub load_loaded : Load-loaded
load_loaded s v h = rw (step_done s (write 0x18 v) h) (unfold o in loaded s v h)

-- ---- Where a stored value stands

-- only a load that is done has a fate
fate_stored : (s : State) (v : ℕ) → (step s (write 0x18 v)).answer.fate ≡ 1 → refusal s (write 0x18 v) ≡ 0
fate_stored s v f = go (eqb (refusal s (write 0x18 v)) 0) refl
  where
    go : (t : Bool) → eqb (refusal s (write 0x18 v)) 0 ≡ t → refusal s (write 0x18 v) ≡ 0
    go true t = eqb-true _ _ t
    go false t = absurd (let z : ◌≡◌ {A = ℕ} 0 1 = unfold refused in (rw (step_refused s (write 0x18 v) t) at f) in omega arith)

pub load_place : Load-place
unfolding full place done board_before
load_place s v f =
    let h = fate_stored s v f in
    let st = refusal_stands s (write 0x18 v) tt h in
    let r = (load_loaded s v h).room.0 f in
    let c : closed s.board.core ≡ false = (closed_not s.board.core).1 r.0 in
    let g : is_full s.board.size s.board.ring.count ≡ false = lt-leb _ _ (rw stored_length at r.1) in
    let at = (s.board.ring.first + s.board.ring.count) % depth s.board in
    let e : placed s (write 0x18 v) ≡ place_store (depth s.board) (v % value_span) (place_of s) =
    unfold place in ap (λ (q : Play). place (depth s.board) q.op (place_of s)) (unfold full in played_room s v c g) in
    let l : at < length s.memory = omega (arith, mod-lt (s.board.ring.first + s.board.ring.count) (depth_pos s.board.size.fitted), st.enough) in
    rw (step_done s (write 0x18 v) h) (record {
      first = ap (λ (p : Place). p.ring.first) e;
      count = ap (λ (p : Place). p.ring.count) e;
      there = ap (λ (p : Place). get_or p.memory at 0) e ∙ get_or-set_same s.memory at (v % value_span) 0 l;
      others = λ i n. ap (λ (p : Place). get_or p.memory i 0) e ∙ get_or-set_other s.memory at i (v % value_span) 0 n;
    })

-- ---- Only loads have a fate

abbrev Fateless : Play → Type 0
Fateless p = p.fate ≡ none

moves_fateless : (c : Core) (buf : List ℕ) (k : ℕ) → Fateless (moves c buf k)
unfolding moves
moves_fateless c buf zero = refl
moves_fateless c buf (suc k) = refl

outside_fateless : (c : Core) (buf : List ℕ) → Fateless (on_outside c buf)
unfolding on_outside clock
outside_fateless c buf = either Fateless (clock_accepted c) (moves_fateless c buf (moving c buf)) refl

buffer_fateless : (c : Core) (buf : List ℕ) (v : ℕ) → Fateless (write_buffer c buf v)
unfolding write_buffer tried
buffer_fateless c buf v = either Fateless (bit 11 v) refl (either Fateless (bit 7 v) (outside_fateless (buffer_of v c) buf) refl)

signal_fateless : (c : Core) (buf : List ℕ) (x : Signal) → Fateless (on_signal c buf x)
unfolding on_signal on_tick clock on_trigger calibration_ends settles
signal_fateless c buf tick = either Fateless (tick_accepted c) (moves_fateless c buf (moving c buf)) refl
signal_fateless c buf outside = outside_fateless c buf
signal_fateless c buf trigger = refl
signal_fateless c buf passed = refl
signal_fateless c buf failed = refl
signal_fateless c buf settled = refl

play_fateless : (c : Core) (buf : List ℕ) (g : Bool) (e : Event) → ¬ IsLoad e → Fateless (play c buf g e)
unfolding play write_control write_mask write_rate write_adjust
play_fateless c buf g (power_up x) h = refl
play_fateless c buf g (write o v) h =
    write_cases Fateless c buf g o v (λ _. refl) (λ _. refl) (λ _. refl) (λ _. refl) (λ _. buffer_fateless c buf v) (λ e. absurd (h e)) refl
play_fateless c buf g (read o) h = refl
play_fateless c buf g (signal x) h = signal_fateless c buf x

pub fate_none : Fate-none
unfolding done refused
fate_none s e h =
    step_cases (λ o. o.answer.fate ≡ 0) s e (λ _. ap fate_number (play_fateless s.board.core (stored s) _ e h)) (λ _. refl)
