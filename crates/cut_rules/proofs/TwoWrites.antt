-- The two writes, whichever comes first, and when the board is ready to play.
--   ReadyToPlay mask v n c   of a core: its mask and mode, its clock, its cursor n
--   Playing mask v vs n s    of a board: that, and the values vs are stored
--   BothWritten v w c d      of the core d after the two writes, by the core c before them
use Prim.Native.Nat.{ℕ, ◌%◌}
use mathlib.Core.Path.{◌≡◌, refl, sym, ap, subst, ◌∙◌}
use mathlib.Core.Bool.{Bool, true, false, not, ◌&&◌, cond, and-false}
use mathlib.Core.List.{List, [], ◌∷◌}
use native.Mathlib.Omega.{arith}
use lib.ListN.{length}
use Rattle.rules.specs.declared.Event.{Event}
use Rattle.rules.specs.declared.Event.TheVariants.{Write as write}
use Rattle.rules.specs.declared.Size.{Size}
use Rattle.rules.specs.declared.Control.{Control}
use Rattle.rules.specs.declared.Mode.{Mode}
use Rattle.rules.specs.declared.Calibration.{Calibration}
use Rattle.rules.specs.declared.Outputs.{Outputs}
use Rattle.rules.specs.declared.Core.{Core}
use Rattle.rules.specs.Bits.{bit}
use Rattle.rules.specs.Record.{State, stored}
use Rattle.rules.specs.Parts.{with_outputs}
use Rattle.rules.specs.Clocks.{Play, only, clock_ready, clock_accepted, on_outside}
use Rattle.rules.specs.Writes.{control_of, cursor_of, calibration_of, write_control, mode_of, buffer_of, tried, write_buffer, on_write}
use Rattle.rules.specs.Play.{play}
use Rattle.rules.specs.Size.{size_after, code_of}
use Rattle.rules.specs.Step.{played, step}
use Rattle.rules.specs.Session.{outcomes, after}
use Rattle.rules.specs.Laws.Soundness.{Stands}
use Rattle.rules.specs.Laws.Refusals.{Offset}
use Rattle.rules.proofs.Choice.{either, cond_false}
use Rattle.laws.specs.Lists.{on_list}
use Rattle.cut_rules.specs.Plays.{Fine, none, next, Playable, EitherOrder, control_first, buffer_first}
use Rattle.cut_rules.proofs.Passing.{Done, no_loss_lem, BoardWith, board_after, write_done}

-- ---- What a tick looks at

pub record ReadyToPlay (mask v cursor : ℕ) (c : Core) : Type 0 where
  pub bursts : c.control.bursts ≡ false
  pub binary : c.control.binary ≡ bit 4 v
  pub simultaneous : c.control.simultaneous ≡ bit 7 v
  pub enabled : c.mode.enabled ≡ true
  pub generator : c.mode.external ≡ false
  pub uncircled : c.mode.circular ≡ false
  pub uncalibrating : c.calibration.running ≡ false
  pub mask_is : c.outputs.mask ≡ mask
  pub cursor_is : c.outputs.cursor ≡ cursor
  pub twenty : length c.outputs.levels ≡ 20

-- ---- Each write by itself

offset_00 : Offset 0x00
offset_00 = record { aligned = refl; low = omega arith }

offset_0_c : Offset 0x0C
offset_0_c = record { aligned = refl; low = omega arith }

-- the core after a write to 00h that does not initialise
abbrev controlled : ℕ → Core → Core
controlled v c = (write_control c v).core

control_played : (s : State) (v : ℕ) → bit 15 v ≡ false → played s (write 0x00 v) ≡ only (controlled v s.board.core)
unfolding play on_write write_control
control_played s v z = cond_false _ _ _ z

-- no software clock is accepted where the clock is the generator's
no_software_clock : (c : Core) (buf : List ℕ) → c.mode.external ≡ false → on_outside c buf ≡ only c
unfolding on_outside
no_software_clock c buf z =
    let e : clock_accepted c ≡ false =
    ap (λ (t : Bool). c.mode.enabled && t && not c.clock.alt && clock_ready c) z
    ∙ ap (λ (t : Bool). t && not c.clock.alt && clock_ready c) (and-false c.mode.enabled) in
    cond_false _ _ _ e

buffer_played : (s : State) (w : ℕ) → bit 4 w ≡ false → bit 11 w ≡ false → played s (write 0x0C w) ≡ only (buffer_of w s.board.core)
unfolding play on_write write_buffer tried buffer_of
buffer_played s w g z =
    cond_false _ _ _ z
    ∙ either (λ (p : Play). p ≡ only (buffer_of w s.board.core)) (bit 7 w) (no_software_clock (buffer_of w s.board.core) (stored s) g) refl

-- the board with the values vs, as the ticks find it
pub record Playing (mask v : ℕ) (vs : List ℕ) (cursor : ℕ) (s : State) : Type 0 where
  pub stands : Stands s
  pub ready : ReadyToPlay mask v cursor s.board.core
  pub values : stored s ≡ vs

pub board_playing : {mask v cursor : ℕ} {c : Core} {z : Size} {vs : List ℕ} {s : State} → BoardWith c z vs s → ReadyToPlay mask v cursor c
    → Playing mask v vs cursor s
board_playing {mask} {v} {cursor} b r =
    record { stands = b.stands; ready = subst (ReadyToPlay mask v cursor) (sym b.core) r; values = b.values }

-- ---- Both

pub record BothWritten (v w : ℕ) (c d : Core) : Type 0 where
  pub options : d.options ≡ c.options
  pub control : d.control ≡ control_of v
  pub mode : d.mode ≡ mode_of w
  pub calibration : d.calibration ≡ c.calibration
  pub mask : d.outputs.mask ≡ c.outputs.mask
  pub cursor : c.outputs.cursor ≡ 0 → d.outputs.cursor ≡ 0
  pub levels : d.outputs.levels ≡ c.outputs.levels

-- two writes on the board s, with the core c, the fitted code d and the values vs: they are accepted, and w names the size
pub record BothDone (v w : ℕ) (c : Core) (d : ℕ) (vs : List ℕ) (s : State) (two : List Event) : Type 0 where
  pub fine : Fine (outcomes s two)
  pub core : Core
  pub written : BothWritten v w c core
  pub end : BoardWith core (record { fitted = d; code = w % 16 }) vs (after s two)

-- a cursor that is 0 is 0 in either mode
cursor_zero : (was is : Bool) → cursor_of was is 0 ≡ 0
unfolding cursor_of
cursor_zero was is = either (λ (n : ℕ). n ≡ 0) (cond was is (not is)) refl refl

module _ (v w : ℕ) (p : Playable v w) where
  module _ {c d : Core} (h : BothWritten v w c d) (still : c.calibration.running ≡ false) where
    pub still_after : d.calibration.running ≡ false
    still_after = ap (λ (y : Calibration). y.running) h.calibration ∙ still

    pub uncircled_after : d.mode.circular ≡ false
    uncircled_after = let e : d.mode.circular ≡ bit 8 w = ap (λ (y : Mode). y.circular) h.mode in e ∙ p.uncircled

    -- ready, if the outputs have the mask, and the cursor is 0
    pub ready_to_play : (mask : ℕ) (o : Outputs) → o.mask ≡ mask → o.cursor ≡ 0 → length o.levels ≡ 20 → ReadyToPlay mask v 0 (with_outputs o d)
    ready_to_play mask o m n l =
        let bursts : d.control.bursts ≡ bit 0 v = ap (λ (y : Control). y.bursts) h.control in
        let enabled : d.mode.enabled ≡ bit 5 w = ap (λ (y : Mode). y.enabled) h.mode in
        let external : d.mode.external ≡ bit 4 w = ap (λ (y : Mode). y.external) h.mode in
        record {
          bursts = bursts ∙ p.no_bursts;
          binary = ap (λ (y : Control). y.binary) h.control;
          simultaneous = ap (λ (y : Control). y.simultaneous) h.control;
          enabled = enabled ∙ p.enabled;
          generator = external ∙ p.generator;
          uncircled = uncircled_after;
          uncalibrating = still_after;
          mask_is = m;
          cursor_is = n;
          twenty = l;
        }

  module _ (c : Core) where
    uncalibrated : calibration_of v c.calibration ≡ c.calibration
    unfolding calibration_of
    uncalibrated = cond_false (bit 13 v) _ _ p.no_calibration

    control_then_buffer : BothWritten v w c (buffer_of w (controlled v c))
    unfolding buffer_of write_control
    control_then_buffer =
        record {
          options = refl;
          control = refl;
          mode = refl;
          calibration = uncalibrated;
          mask = refl;
          cursor = λ e. cond_false (bit 11 w) _ _ p.unemptied ∙ ap (cursor_of _ (bit 7 v)) e ∙ cursor_zero _ (bit 7 v);
          levels = refl;
        }

    buffer_then_control : BothWritten v w c (controlled v (buffer_of w c))
    unfolding buffer_of write_control
    buffer_then_control =
        record {
          options = refl;
          control = refl;
          mode = refl;
          calibration = uncalibrated;
          mask = refl;
          cursor = λ e. ap (cursor_of _ (bit 7 v)) (cond_false (bit 11 w) _ _ p.unemptied ∙ e) ∙ cursor_zero _ (bit 7 v);
          levels = refl;
        }

  -- each write by itself
  module _ {c : Core} {z : Size} {vs : List ℕ} {s : State} (b : BoardWith c z vs s) (still : c.calibration.running ≡ false) where
    control_done : Done s (write 0x00 v) (only (controlled v c))
    control_done =
        write_done b 0x00 v (λ (y : Core). only (controlled v y)) offset_00 (λ e. omega (arith, e)) (λ e. omega (arith, e)) still
        (control_played s v p.no_initialise)

    buffer_done : Done s (write 0x0C w) (only (buffer_of w c))
    buffer_done =
        write_done b 0x0C w (λ (y : Core). only (buffer_of w y)) offset_0_c (λ e. omega (arith, e)) (λ e. omega (arith, e)) still
        (buffer_played s w p.generator p.unemptied)

  -- two events that change the core and the size alone
  both_done : {c : Core} {z : Size} {vs : List ℕ} {s : State} {e f : Event} {d d' : Core} → BoardWith c z vs s
      → (a : Done s e (only d)) → Done (step s e).state f (only d') → BothWritten v w c d'
      → size_after (size_after z e) f ≡ record { fitted = z.fitted; code = w % 16 }
      → BothDone v w c z.fitted vs s (e ∷ f ∷ [])
  unfolding after outcomes on_list
  both_done {vs = vs} {s = s} {e = e} {f = f} {d' = d'} b a a' h size =
      record {
        fine = next a.refusal (no_loss_lem a.fate) (next a'.refusal (no_loss_lem a'.fate) none);
        core = d';
        written = h;
        end = subst (λ (y : Size). BoardWith d' y vs (after s (e ∷ f ∷ []))) size (board_after (board_after b a) a');
      }

  -- in either order
  pub two_done : {c : Core} {z : Size} {vs : List ℕ} {s : State} → BoardWith c z vs s → c.calibration.running ≡ false
      → (two : List Event) → EitherOrder v w two → BothDone v w c z.fitted vs s two
  unfolding buffer_of write_control size_after code_of
  two_done {c} b still _ control_first =
      let a = control_done b still in
      both_done b a (buffer_done (board_after b a) (ap (λ (y : Calibration). y.running) (uncalibrated c) ∙ still)) (control_then_buffer c) refl
  two_done {c} {z} b still _ buffer_first =
      let a = buffer_done b still in
      both_done b a (control_done (board_after b a) still) (buffer_then_control c)
      (ap (λ (n : ℕ). record { fitted = z.fitted; code = n }) (cond_false (bit 15 v) _ _ p.no_initialise))
