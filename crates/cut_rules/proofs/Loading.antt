-- The cut's events on a board that takes them: the mask is written, and each value is stored behind the one before. So they are right
-- after an accepted power-up (specs/Plays, Cut-stored).
use Prim.Native.Nat.{ℕ, zero, suc, ◌+◌, ◌≤◌, ◌<◌}
use mathlib.Core.Path.{◌≡◌, refl, sym, ap, subst, ◌∙◌}
use mathlib.Core.Bool.{true, false, false≢true}
use mathlib.Core.List.{List, [], ◌∷◌, ◌++◌, map, append_assoc, append-nil}
use native.Mathlib.Nat.{mod-eq_of_lt, le_of_eq}
use native.Mathlib.Omega.{arith}
use lib.ListN.{length, get_or, length-append}
use Rattle.rules.specs.declared.Settings.{Settings}
use Rattle.rules.specs.declared.Event.TheVariants.{PowerUp as power_up, Write as write}
use Rattle.rules.specs.declared.Options.{Options}
use Rattle.rules.specs.declared.Size.{Size}
use Rattle.rules.specs.declared.Core.{Core}
use Rattle.rules.specs.Bits.{bit}
use Rattle.rules.specs.Record.{State, stored, depth_of, active_size, channels, value_span}
use Rattle.rules.specs.Parts.{with_outputs}
use Rattle.rules.specs.Clocks.{only}
use Rattle.rules.specs.Writes.{initial, write_mask, on_write}
use Rattle.rules.specs.Play.{options_of, play}
use Rattle.rules.specs.Size.{size_after, code_of}
use Rattle.rules.specs.Refusals.{refusal}
use Rattle.rules.specs.Step.{played, step, done, board_before}
use Rattle.rules.specs.Session.{outcomes, after}
use Rattle.rules.specs.Laws.Refusals.{Offset}
use Rattle.rules.specs.Laws.Closed.{Closed}
use Rattle.rules.proofs.Steps.{step_done, refusal_answered}
use Rattle.rules.proofs.Sizes.{size_lesser}
use Rattle.rules.proofs.Masks.{below_bits}
use Rattle.rules.proofs.Refusals.{power_up_accepted}
use Rattle.rules.proofs.Initial.{power_up_fresh}
use Rattle.laws.specs.Lists.{on_list}
use Rattle.laws.proofs.Lasting.{up_stands, stands_kept}
use Rattle.laws.proofs.Loads.{load_loaded}
use Rattle.cut_rules.specs.Cut.{Cut, numbers, eof_on_last, events}
use Rattle.cut_rules.specs.Laws.{Sixteen}
use Rattle.cut_rules.specs.Plays.{Equipped, Ordered, powered, Fine, none, next, Cut-stored}
use Rattle.cut_rules.proofs.Lists.{eof_told}
use Rattle.cut_rules.proofs.ChosenNumbers.{numbers_small}
use Rattle.cut_rules.proofs.Passing.{Done, no_loss_lem, BoardWith, board_after, write_accepted, write_done}

offset_04 : Offset 0x04
offset_04 = record { aligned = refl; low = omega arith }

offset_18 : Offset 0x18
offset_18 = record { aligned = refl; low = omega arith }

-- ---- The mask

-- the core c when the mask is written
abbrev pub masked : ℕ → Core → Core
masked mask c = with_outputs (record { mask = mask; cursor = 0; levels = c.outputs.levels }) c

-- a core that takes values: not circular, and no calibration runs
pub record TakesValues (c : Core) : Type 0 where
  pub uncircled : c.mode.circular ≡ false
  pub uncalibrating : c.calibration.running ≡ false

-- the channels of the mask are fitted
abbrev pub MaskFitted : ℕ → Options → Type 0
MaskFitted mask o = (k : ℕ) → bit k mask ≡ true → k < channels o.kit

mask_played : (s : State) (mask : ℕ) → MaskFitted mask s.board.core.options → played s (write 0x04 mask) ≡ only (masked mask s.board.core)
unfolding play on_write write_mask
mask_played s mask f = ap (λ (m : ℕ). only (masked m s.board.core)) (mod-eq_of_lt (below_bits _ mask f))

mask_done : {c : Core} {z : Size} {vs : List ℕ} {s : State} (mask : ℕ) → BoardWith c z vs s → TakesValues c → MaskFitted mask c.options
    → Done s (write 0x04 mask) (only (masked mask c))
mask_done {s = s} mask b t f =
    write_done b 0x04 mask (λ (y : Core). only (masked mask y)) offset_04 (λ e. omega (arith, e)) (λ e. omega (arith, e)) t.uncalibrating
    (mask_played s mask (subst (λ (y : Core). MaskFitted mask y.options) (sym b.core) f))

-- ---- A load

module _ (c : Core) (z : Size) (t : TakesValues c) where
  load_next : (vs : List ℕ) (v : ℕ) (s : State) → BoardWith c z vs s → v < value_span → length vs < active_size z
      → ((step s (write 0x18 v)).answer.refusal ≡ 0)
      × ((step s (write 0x18 v)).answer.fate ≡ 1)
      × BoardWith c z (vs ++ (v ∷ [])) (step s (write 0x18 v)).state
  load_next vs v s b small room =
      let unclosed : ¬ Closed s.board.core =
      λ k. false≢true (sym (ap (λ (y : Core). y.mode.circular) b.core ∙ t.uncircled) ∙ k.circular) in
      let a = write_accepted b 0x18 v offset_18 (λ e. omega (arith, e)) (λ e. omega (arith, e)) t.uncalibrating in
      let r = load_loaded s v a in
      let free : length (stored s) < active_size s.board.size = omega (arith, ap length b.values, ap active_size b.size) in
      let f = r.room.1 (unclosed, free) in
      let g = r.appended f in (
        refusal_answered s (write 0x18 v) ∙ a,
        f,
        record {
          stands = stands_kept s (write 0x18 v) b.stands;
          core = g.1 ∙ b.core;
          size = r.size ∙ b.size;
          values = g.0 ∙ (λ i. b.values i ++ (mod-eq_of_lt small i ∷ []));
        },
      )

  -- all of them
  record LoadedAll (vs ws : List ℕ) (s : State) : Type 0 where
    fine : Fine (outcomes s (map (write 0x18) ws))
    end : BoardWith c z (vs ++ ws) (after s (map (write 0x18) ws))

  load_all : (ws vs : List ℕ) (s : State) → BoardWith c z vs s → ((i : ℕ) → get_or ws i 0 < value_span) → length vs + length ws ≤ active_size z
      → LoadedAll vs ws s
  unfolding outcomes after
  load_all [] vs s b small room = record { fine = none; end = subst (λ (ys : List ℕ). BoardWith c z ys s) (sym (append-nil vs)) b }
  load_all (w ∷ ws) vs s b small room =
      let l = load_next vs w s b (small 0) (omega arith) in
      let r = load_all ws (vs ++ (w ∷ [])) _ l.2 (λ i. small (suc i)) (omega (arith, length-append vs (w ∷ []))) in
      record {
        fine = next l.0 (le_of_eq l.1) r.fine;
        end = subst (λ (ys : List ℕ). BoardWith c z ys (after s (map (write 0x18) (w ∷ ws)))) (append_assoc vs (w ∷ []) ws) r.end;
      }

-- ---- The session of a cut

-- a number of a recording, and the mark above it
pub marked_small : (vs : List ℕ) → ((i : ℕ) → get_or vs i 0 < 0x10000) → (i : ℕ) → get_or (eof_on_last vs) i 0 < value_span
unfolding eof_on_last
marked_small [] f i = omega arith
marked_small (v ∷ []) f zero = omega (arith, f 0)
marked_small (v ∷ []) f (suc i) = omega arith
marked_small (v ∷ w ∷ vs) f zero = omega (arith, f 0)
marked_small (v ∷ w ∷ vs) f (suc i) = marked_small (w ∷ vs) (λ j. f (suc j)) i

-- the events of the cut q on the board s: they are accepted, and leave its values on a core with its mask
pub record CutDone (q : Cut) (c : Core) (z : Size) (s : State) : Type 0 where
  pub fine : Fine (outcomes s (events q))
  pub end : BoardWith (masked q.mask c) z (eof_on_last (numbers q)) (after s (events q))

pub cut_done : {c : Core} {z : Size} {s : State} (q : Cut) → BoardWith c z [] s → TakesValues c → MaskFitted q.mask c.options
    → Sixteen q.recording → length (numbers q) ≤ active_size z
    → CutDone q c z s
unfolding events outcomes after on_list size_after code_of
cut_done {c} {z} q b t f sixteen room =
    let d = mask_done q.mask b t f in
    let l =
    load_all (masked q.mask c) z (record { uncircled = t.uncircled; uncalibrating = t.uncalibrating })
    (eof_on_last (numbers q)) [] _ (board_after b d) (marked_small (numbers q) (numbers_small q sixteen))
    (omega (arith, (eof_told (numbers q)).long)) in
    record { fine = next d.refusal (no_loss_lem d.fate) l.fine; end = l.end }

-- ---- Right after an accepted power-up

-- 01: "BOR 0000340Fh": the size code is 15
abbrev pub fitted_size : Settings → Size
fitted_size x = record { fitted = x.fitted; code = 15 }

module _ (s : State) (x : Settings) (a : refusal s (power_up x) ≡ 0) where
  powered_core : (powered s x).board.core ≡ initial (options_of x)
  unfolding done board_before play
  powered_core = rw (step_done s (power_up x) a, powered) refl

  pub powered_board : BoardWith (initial (options_of x)) (fitted_size x) [] (powered s x)
  powered_board =
      let f = power_up_fresh s x a in
      record {
        stands = rw (step_done s (power_up x) a, powered) (up_stands s x a);
        core = powered_core;
        size = f.size;
        values = f.empty;
      }

  size_whole : active_size (fitted_size x) ≡ depth_of x.fitted
  size_whole = (size_lesser (fitted_size x)).fitted (power_up_accepted s x a).0.fitted

-- what it leaves takes values; twenty levels
pub initial_takes : (x : Settings) → TakesValues (initial (options_of x))
unfolding initial
initial_takes x = record { uncircled = refl; uncalibrating = refl }

pub initial_twenty : (x : Settings) → length (initial (options_of x)).outputs.levels ≡ 20
unfolding initial
initial_twenty x = refl

module _ (q : Cut) (s : State) (x : Settings) (o : Ordered q) (h : Equipped q s x) where
  pub cut_powered : CutDone q (initial (options_of x)) (fitted_size x) (powered s x)
  unfolding initial
  cut_powered =
      cut_done q (powered_board s x h.accepted) (initial_takes x) h.outputs o.sixteen
      (omega (arith, h.room, size_whole s x h.accepted))

pub cut_stored : Cut-stored
cut_stored q s x o h = let d = cut_powered q s x o h in record { fine = d.fine; values = d.end.values }
