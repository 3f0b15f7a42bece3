-- Clocks: which are accepted, what they move, and what an EOF among the moved values does (01, "Stored values, clocks and bursts").
--   Op          what is done to the stored values
--   Play        what an event that is not refused does: to the core, to the stored values, and its answers
--   clock c buf what an accepted clock does, the stored values being buf
use Rattle.std.specs.Prelude.{ℕ, zero, suc, ◌+◌, ◌%◌, Bool, true, false, not, ◌&&◌, ◌||◌, cond, List, [], ◌∷◌, ◌++◌, map, ltb, eqb, length, take, set}
use Rattle.rules.specs.Types.{Burst, Load, Core}
use Rattle.rules.specs.Types.{Fate, none, was_stored, lost_to_full, lost_to_closed}
use Rattle.rules.specs.Bits.{bit, active_from, head_or, some}
use Rattle.rules.specs.Record.{level_span}
use Rattle.rules.specs.Parts.{no_burst, with_burst, with_load, with_outputs}

-- ---- What an event does

-- Nothing; all are dropped; one is stored; k leave for good; k leave and are stored again.
pub data Op : Type 0 where
  keep clear : Op
  store : ℕ → Op
  leave recirculate : ℕ → Op

-- 01: "load fate (0 none, 1 stored, 2 lost to full, 3 lost to closed)"
abbrev pub fate_number : Fate → ℕ
fate_number none = 0
fate_number was_stored = 1
fate_number lost_to_full = 2
fate_number lost_to_closed = 3

pub record Play : Type 0 where
  pub core : Core
  pub op : Op
  pub moved : ℕ
  pub fate : Fate

-- an event that moves, stores and drops nothing
abbrev pub only : Core → Play
only c = record { core = c; op = keep; moved = 0; fate = none }

-- ---- States that clocks look at

-- 01: "closed = circular and not opened"
abbrev pub closed : Core → Bool
closed c = c.mode.circular && not c.load.opened

-- 01: "D6 reads EXTERNAL and neither settling nor calibrating". Reading: ALT and ENABLE CLOCK are no part of it (DECISIONS 13).
abbrev pub clock_ready : Core → Bool
clock_ready c = c.mode.external && not c.clock.settling && not c.calibration.running

-- 01: "D1 = enabled and no burst". Reading: also while calibrating (DECISIONS 6).
abbrev pub burst_ready : Core → Bool
burst_ready c = c.control.bursts && not c.burst.running

-- ---- What a clock moves, and where to

-- 01: "to the lowest active channel at or above the cursor, else to the lowest active one"
unfoldable pub next_channel : Core → ℕ
next_channel c = head_or 0 (active_from c.outputs.cursor c.outputs.mask ++ active_from 0 c.outputs.mask)

-- the channels that a clock gives a value each: in simultaneous mode every active one, "ascending"
unfoldable pub targets : Core → List ℕ
targets c = cond c.control.simultaneous (active_from 0 c.outputs.mask) (next_channel c ∷ [])

-- 01: "An accepted clock moves nothing if the mask is 0, or if bursts are enabled with none in progress."
abbrev pub idle : Core → Bool
idle c = eqb c.outputs.mask 0 || burst_ready c

-- 01: "sequential mode moves one value, if any"; "Simultaneous mode moves as many values as the mask has ones, ascending, only if
-- that many are stored". The list of active channels is as long as the mask has ones (Moved in `laws`). Reading: no part of a group moves
-- (DECISIONS 19).
unfoldable pub moving : Core → List ℕ → ℕ
moving c buf = cond (idle c || ltb (length buf) (length (targets c))) 0 (length (targets c))

-- 01: "the cursor becomes that channel + 1"; in simultaneous mode "the cursor stays 0"
unfoldable pub cursor_after : Core → ℕ
cursor_after c = cond c.control.simultaneous c.outputs.cursor (next_channel c + 1)

-- ---- Levels

-- 01: "Offset binary makes the level equal the data; two's complement adds 8000h mod 10000h." Reading: as the value leaves
-- (DECISIONS 18).
unfoldable pub coded : Bool → ℕ → ℕ
coded binary v = cond binary (v % level_span) ((v % level_span + 0x8000) % level_span)

-- the values given to the channels, one each, in order. 01: "Other channels hold."
unfoldable pub laid : Bool → List ℕ → List ℕ → List ℕ → List ℕ
laid binary levels [] vs = levels
laid binary levels (k ∷ ks) [] = levels
laid binary levels (k ∷ ks) (v ∷ vs) = laid binary (set levels k (coded binary v)) ks vs

-- ---- The end of a frame

unfoldable pub carries_eof : List ℕ → Bool
carries_eof vs = some (map (bit 16) vs)

-- What ends a burst at a clock that moves k of the values buf: an EOF among them, and nothing else (DECISIONS 1).
unfoldable pub burst_ends : List ℕ → ℕ → Bool
burst_ends buf k = carries_eof (take k buf)

-- 01: "Then, if any carried EOF, once: a burst ends; opened becomes closed; else pending becomes opened." Reading: once a clock, not
-- once a value (DECISIONS 14).
unfoldable pub burst_after : Bool → Burst → Burst
burst_after ends x = cond ends no_burst x

unfoldable pub load_after : Bool → Load → Load
load_after ended x = cond ended (record { pending = false; opened = not x.opened && x.pending }) x

-- ---- An accepted clock

-- 01: "All values of one clock recirculate if the buffer was closed before it, else they are discarded."
unfoldable pub outgoing : Core → ℕ → Op
outgoing c k = cond (closed c) (recirculate k) (leave k)

-- k values move. A clock that moves nothing changes nothing, the cursor too (DECISIONS 10).
unfoldable pub moves : Core → List ℕ → ℕ → Play
moves c buf zero = only c
moves c buf (suc k) =
    record {
      core = with_burst (burst_after (burst_ends buf (suc k)) c.burst)
          (with_load (load_after (carries_eof (take (suc k) buf)) c.load)
          (with_outputs (record {
            mask = c.outputs.mask;
            cursor = cursor_after c;
            levels = laid c.control.binary c.outputs.levels (targets c) (take (suc k) buf);
          }) c));
      op = outgoing c (suc k);
      moved = suc k;
      fate = none;
    }

unfoldable pub clock : Core → List ℕ → Play
clock c buf = moves c buf (moving c buf)

-- ---- Which clocks and triggers are accepted

-- 01: "A generator tick is accepted when clocking is enabled and (EXTERNAL = 0 or ALT = 1)." Reading: settling does not matter to it
-- (DECISIONS 12).
-- 01: "While calibrating, no clock or trigger is accepted."
abbrev pub tick_accepted : Core → Bool
tick_accepted c = c.mode.enabled && (not c.mode.external || c.clock.alt) && not c.calibration.running

-- 01: "An outside or software clock is accepted when enabled, EXTERNAL = 1, ALT = 0 and D6 = 1."
abbrev pub clock_accepted : Core → Bool
clock_accepted c = c.mode.enabled && c.mode.external && not c.clock.alt && clock_ready c

-- 01: "An outside trigger starts a burst when BCR D0 = 1, BCR D6 = 0, and there is no burst or calibration." Reading: it needs no
-- clock, data or mask (DECISIONS 5).
abbrev pub trigger_accepted : Core → Bool
trigger_accepted c = c.control.bursts && not c.control.barred && not c.burst.running && not c.calibration.running

-- 01: "Clocks and triggers that are not accepted answer 0 and change nothing."
unfoldable pub on_tick : Core → List ℕ → Play
on_tick c buf = cond (tick_accepted c) (clock c buf) (only c)

unfoldable pub on_outside : Core → List ℕ → Play
on_outside c buf = cond (clock_accepted c) (clock c buf) (only c)

unfoldable pub on_trigger : Core → Play
on_trigger c = only (with_burst (cond (trigger_accepted c) (record { running = true; software = false }) c.burst) c)
