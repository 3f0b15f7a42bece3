-- Channel k of a group plays on output k, tick by tick (specs/Plays, Channel-plays).
--   PlaysOut q v s es   what sessions on the board s play, and that nothing is refused or lost
use Prim.Native.Nat.{ℕ, zero, suc, ◌+◌, ◌*◌, ◌%◌, ◌≤◌, ◌<◌}
use mathlib.Core.Path.{◌≡◌, refl, sym, ap, subst, ◌∙◌}
use mathlib.Core.Logic.{◌≢◌, ◌⊎◌, inl, inr, ⊎_elim}
use mathlib.Core.Bool.{Bool, true, false, true≢false}
use mathlib.Core.List.{List, [], ◌∷◌, ◌++◌}
use native.Mathlib.Nat.{suc-mul, mul-le-mul_right, add-zero}
use native.Mathlib.Omega.{arith}
use lib.ListN.{length, get_or, drop, length-drop, drop_of_length-le}
use lib.Seq.{get_or-drop, drop-drop, drop-cons, drop-length}
use Rattle.rules.specs.declared.Settings.{Settings}
use Rattle.rules.specs.declared.Event.{Event}
use Rattle.rules.specs.declared.Event.TheVariants.{Signal as signal}
use Rattle.rules.specs.declared.Signal.TheVariants.{Tick as tick}
use Rattle.rules.specs.Bits.{bit, active_from, head_or}
use Rattle.rules.specs.Record.{State, level_span}
use Rattle.rules.specs.Clocks.{targets}
use Rattle.rules.specs.Step.{step}
use Rattle.rules.specs.Session.{outcomes, after}
use Rattle.rules.proofs.Runs.{after_append}
use Rattle.laws.specs.Moved.{Coding, level_at, Among}
use Rattle.laws.proofs.Among.{among_nil, among_cons}
use Rattle.cut_rules.specs.Cut.{Cut, sample, chosen, groups, numbers, eof_on_last, events}
use Rattle.cut_rules.specs.Plays.{Equipped, Ordered, powered, Fine, Playable, EitherOrder, many_ticks, GroupByGroup, InTurn, OnItsOutput, Channel-plays}
use Rattle.cut_rules.proofs.Lists.{eof_told, eof_data}
use Rattle.cut_rules.proofs.ChosenNumbers.{chosen_is, chosen_channels, numbers_long, numbers_at}
use Rattle.cut_rules.proofs.Passing.{fine_append, ticks_fine}
use Rattle.cut_rules.proofs.Loading.{initial_takes, initial_twenty, cut_powered}
use Rattle.cut_rules.proofs.TwoWrites.{Playing, board_playing, ready_to_play, two_done}
use Rattle.cut_rules.proofs.Ticks.{tick_moves, tick_playing, tick_given, play_targets, sequential_targets}
use Rattle.cut_rules.proofs.Order.{next_from}

-- one tick more comes last
after_tick : (n : ℕ) (s : State) → after s (many_ticks (suc n)) ≡ (step (after s (many_ticks n)) (signal tick)).state
unfolding after
after_tick zero s = refl
after_tick (suc n) s = after_tick n (step s (signal tick)).state

-- the coding looks at the data alone
coding_data : (binary : Bool) (v w level : ℕ) → v % level_span ≡ w % level_span → Coding binary v level → Coding binary w level
coding_data binary v w level e c =
    record {
      same = λ b. c.same b ∙ e;
      lower = λ b l. c.lower b (omega (arith, e)) ∙ omega (arith, e);
      upper = λ b l. c.upper b (omega (arith, e)) ∙ e;
    }

module _ (q : Cut) (o : Ordered q) (v : ℕ) (s : State) where
  -- the values that are stored, so many of each group
  abbrev vs : List ℕ
  vs = eof_on_last (numbers q)

  abbrev c : ℕ
  c = length (chosen q)

  abbrev at : ℕ → State
  at n = after s (many_ticks n)

  long : length vs ≡ groups q * c
  long = (eof_told (numbers q)).long ∙ numbers_long q

  -- the i-th value of the j-th group
  value : (j i level : ℕ) → j < groups q → i < c → Coding (bit 4 v) (get_or vs (j * c + i) 0) level
      → Coding (bit 4 v) (sample q (q.first + j) (get_or (chosen q) i 0)) level
  value j i level l k h =
      coding_data (bit 4 v) _ _ level (eof_data (numbers q) (j * c + i) ∙ ap (λ (x : ℕ). x % level_span) (numbers_at q j i l k)) h

  -- of the groups, those behind the j-th are stored whole
  group_left : (j : ℕ) → j < groups q → c + j * c ≤ length vs
  group_left j l = omega (arith, long, suc-mul j c, mul-le-mul_right c l)

  some : q.mask ≢ 0
  some = o.choice.some

  -- ---- Simultaneous mode

  module _ (mode : bit 7 v ≡ true) (start : Playing q.mask v vs 0 s) where
    abbrev Before : ℕ → State → Type 0
    Before j x = Playing q.mask v (drop (j * c) vs) 0 x

    all_targets : (j : ℕ) (x : State) → Before j x → targets x.board.core ≡ chosen q
    all_targets j x p = play_targets _ q.mask v 0 p.ready mode ∙ sym (chosen_is q)

    enough : (j : ℕ) (x : State) → j < groups q → Before j x → length (targets x.board.core) ≤ length (drop (j * c) vs)
    enough j x l p = omega (arith, ap length (all_targets j x p), length-drop (j * c) vs, group_left j l)

    group_next : (j : ℕ) (x : State) → j < groups q → Before j x → Before (suc j) (step x (signal tick)).state
    group_next j x l p =
        let e = enough j x l p in
        let zero-cursor = (tick_moves q.mask v _ 0 x p some e).group (p.ready.simultaneous ∙ mode) in
        let n : j * c + length (targets x.board.core) ≡ suc j * c = omega (arith, ap length (all_targets j x p), suc-mul j c) in
        subst (λ (ws : List ℕ). Playing q.mask v ws 0 (step x (signal tick)).state)
        (drop-drop (length (targets x.board.core)) (j * c) vs ∙ ap (λ (y : ℕ). drop y vs) n)
        (tick_playing q.mask v _ 0 x p some e 0 zero-cursor)

    group_at : (j : ℕ) → j ≤ groups q → Before j (at j)
    unfolding after
    group_at zero l = let z : 0 * c ≡ 0 = omega arith in subst (λ (n : ℕ). Playing q.mask v (drop n vs) 0 s) (sym z) start
    group_at (suc j) l = subst (Before (suc j)) (sym (after_tick j s)) (group_next j (at j) l (group_at j (omega arith)))

    group_plays : (j k : ℕ) (x : State) → j < groups q → Before j x → bit k q.mask ≡ true
        → Coding (bit 4 v) (sample q (q.first + j) k) (level_at (step x (signal tick)).state k)
    group_plays j k x l p t =
        let x' : State = (step x (signal tick)).state in
        let a = ((chosen_channels q o.count o.grouped o.choice).active k).1 t in
        let e = all_targets j x p in
        let g = tick_given q.mask v _ 0 x p some (enough j x l p) a.index (omega (arith, a.inside, ap length e)) in
        let g' = subst (λ (ks : List ℕ). Coding (bit 4 v) (get_or (drop (j * c) vs) a.index 0) (level_at x' (get_or ks a.index 0))) e g in
        let g'' = subst (λ (w : ℕ). Coding (bit 4 v) w (level_at x' (get_or (chosen q) a.index 0))) (get_or-drop (j * c) vs a.index 0) g' in
        subst (λ (y : ℕ). Coding (bit 4 v) (sample q (q.first + j) y) (level_at x' y)) a.there (value j a.index _ l a.inside g'')

    group_holds : (j k : ℕ) (x : State) → j < groups q → Before j x → bit k q.mask ≡ false
        → level_at (step x (signal tick)).state k ≡ level_at x k
    group_holds j k x l p t =
        (tick_moves q.mask v _ 0 x p some (enough j x l p)).hold k
        (λ a. true≢false (sym (((chosen_channels q o.count o.grouped o.choice).active k).0 (subst (Among k) (all_targets j x p) a)) ∙ t))

    together : GroupByGroup q (bit 4 v) at
    together =
        record {
          plays = λ j k l t.
              subst (λ (y : State). Coding (bit 4 v) (sample q (q.first + j) k) (level_at y k)) (sym (after_tick j s))
              (group_plays j k (at j) l (group_at j (omega arith)) t);
          holds = λ j k l t. ap (λ (y : State). level_at y k) (after_tick j s) ∙ group_holds j k (at j) l (group_at j (omega arith)) t;
          over = (group_at (groups q) (omega arith)).values ∙ drop_of_length-le vs {i = groups q * c} (omega (arith, long));
        }

  -- ---- Sequential mode

  module _ (mode : bit 7 v ≡ false) (start : Playing q.mask v vs 0 s) where
    -- in the j-th group it is the turn of the i-th chosen channel: the channels from the cursor up are this one and those behind it, or
    -- there is none and it is the first
    record Turn (j i : ℕ) (x : State) : Type 0 where
      cursor : ℕ
      playing : Playing q.mask v (drop (j * c + i) vs) cursor x
      line : (active_from cursor q.mask ≡ drop i (chosen q)) ⊎ ((i ≡ 0) × (active_from cursor q.mask ≡ []))

    module _ (j i : ℕ) (x : State) (l : j < groups q) (k : i < c) (t : Turn j i x) where
      abbrev x' : State
      x' = (step x (signal tick)).state

      -- the channel whose turn it is
      abbrev turn : ℕ
      turn = get_or (chosen q) i 0

      -- it is the first of the line, or of all; behind it come the others
      line_from : (n : ℕ) × (n ≤ 20) × (active_from n q.mask ≡ turn ∷ drop (suc i) (chosen q))
          × (head_or 0 (active_from t.cursor q.mask ++ chosen q) ≡ turn)
      unfolding head_or
      line_from = go t.line
        where
          split : drop i (chosen q) ≡ turn ∷ drop (suc i) (chosen q)
          split = drop-cons (chosen q) i 0 k

          go : (active_from t.cursor q.mask ≡ drop i (chosen q)) ⊎ ((i ≡ 0) × (active_from t.cursor q.mask ≡ []))
              → (n : ℕ) × (n ≤ 20) × (active_from n q.mask ≡ turn ∷ drop (suc i) (chosen q))
              × (head_or 0 (active_from t.cursor q.mask ++ chosen q) ≡ turn)
          go (inl e) = (
            t.cursor,
            omega (arith, t.playing.stands.sound.cursor, t.playing.ready.cursor_is),
            e ∙ split,
            ap (λ (ks : List ℕ). head_or 0 (ks ++ chosen q)) (e ∙ split),
          )
          go (inr e) =
              let whole : chosen q ≡ turn ∷ drop (suc i) (chosen q) = ap (λ (n : ℕ). drop n (chosen q)) (sym e.0) ∙ split in
              (0, omega arith, sym (chosen_is q) ∙ whole, (λ m. head_or 0 (e.1 m ++ chosen q)) ∙ ap (head_or 0) whole)

      one_target : targets x.board.core ≡ turn ∷ []
      one_target =
          sequential_targets _ q.mask v t.cursor t.playing.ready mode
          ∙ ap (λ (ks : List ℕ). head_or 0 (active_from t.cursor q.mask ++ ks) ∷ []) (sym (chosen_is q))
          ∙ ap (λ (y : ℕ). y ∷ []) line_from.3

      enough_left : length (targets x.board.core) ≤ length (drop (j * c + i) vs)
      enough_left = omega (arith, ap length one_target, length-drop (j * c + i) vs, group_left j l)

      turn_plays : Coding (bit 4 v) (sample q (q.first + j) turn) (level_at x' turn)
      turn_plays =
          let g = tick_given q.mask v _ t.cursor x t.playing some enough_left 0 (omega (arith, ap length one_target)) in
          let g' = subst (λ (ks : List ℕ). Coding (bit 4 v) (get_or (drop (j * c + i) vs) 0 0) (level_at x' (get_or ks 0 0))) one_target g in
          value j i _ l k (subst (λ (w : ℕ). Coding (bit 4 v) w (level_at x' turn)) (get_or-drop (j * c + i) vs 0 0 ∙ ap (λ (n : ℕ). get_or vs n 0) (add-zero (j * c + i))) g')

      turn_holds : (y : ℕ) → y ≢ turn → level_at x' y ≡ level_at x y
      turn_holds y n =
          (tick_moves q.mask v _ t.cursor x t.playing some enough_left).hold y
          (λ a. ⊎_elim (λ e. n (sym e)) (among_nil y) (among_cons y turn [] (subst (Among y) one_target a)))

      turn_next : Turn j (suc i) x'
      turn_next =
          let m = tick_moves q.mask v _ t.cursor x t.playing some enough_left in
          let moved : x'.board.core.outputs.cursor ≡ suc turn =
          m.single (t.playing.ready.simultaneous ∙ mode) ∙ ap (λ (ks : List ℕ). get_or ks 0 0 + 1) one_target ∙ omega arith in
          let n : j * c + i + length (targets x.board.core) ≡ j * c + suc i = omega (arith, ap length one_target) in
          record {
            cursor = suc turn;
            playing =
                subst (λ (ws : List ℕ). Playing q.mask v ws (suc turn) x')
                (drop-drop (length (targets x.board.core)) (j * c + i) vs ∙ ap (λ (y : ℕ). drop y vs) n)
                (tick_playing q.mask v _ t.cursor x t.playing some enough_left (suc turn) moved);
            line = inl (next_from line_from.0 q.mask turn (drop (suc i) (chosen q)) line_from.1 line_from.2);
          }

    -- the turns of a group, one after another
    turns : (j : ℕ) → j < groups q → Turn j 0 (at (j * c)) → (i : ℕ) → i ≤ c → Turn j i (at (j * c + i))
    turns j l t zero k = subst (λ (n : ℕ). Turn j 0 (at n)) (sym (add-zero (j * c))) t
    turns j l t (suc i) k =
        let n : suc (j * c + i) ≡ j * c + suc i = omega arith in
        subst (λ (m : ℕ). Turn j (suc i) (at m)) n
        (subst (Turn j (suc i)) (sym (after_tick (j * c + i) s)) (turn_next j i (at (j * c + i)) l k (turns j l t i (omega arith))))

    -- and of a group after another
    first_turn : (j : ℕ) → j ≤ groups q → Turn j 0 (at (j * c))
    unfolding after
    first_turn zero l =
        let z : 0 * c ≡ 0 = omega arith in
        subst (λ (n : ℕ). Turn 0 0 (at n)) (sym z)
        (record {
          cursor = 0;
          playing = subst (λ (n : ℕ). Playing q.mask v (drop (n + 0) vs) 0 s) (sym z) start;
          line = inl (sym (chosen_is q));
        })
    first_turn (suc j) l =
        let t = turns j l (first_turn j (omega arith)) c (omega arith) in
        let n : j * c + c ≡ suc j * c = sym (suc-mul j c) in
        subst (λ (m : ℕ). Turn (suc j) 0 (at m)) n
        (record {
          cursor = t.cursor;
          playing =
              subst (λ (m : ℕ). Playing q.mask v (drop m vs) t.cursor (at (j * c + c))) (n ∙ sym (add-zero (suc j * c))) t.playing;
          line = inr (refl, ⊎_elim (λ e. e ∙ drop-length (chosen q)) (λ e. e.1) t.line);
        })

    turn_at : (j i : ℕ) → j < groups q → i < c → Turn j i (at (j * c + i))
    turn_at j i l k = turns j l (first_turn j (omega arith)) i (omega arith)

    in_turn_lem : InTurn q (bit 4 v) at c
    in_turn_lem =
        record {
          plays = λ j i l k.
              subst (λ (y : State). Coding (bit 4 v) (sample q (q.first + j) (get_or (chosen q) i 0)) (level_at y (get_or (chosen q) i 0)))
              (sym (after_tick (j * c + i) s))
              (turn_plays j i (at (j * c + i)) l k (turn_at j i l k));
          holds = λ j i y l k n.
              ap (λ (x : State). level_at x y) (after_tick (j * c + i) s) ∙ turn_holds j i (at (j * c + i)) l k (turn_at j i l k) y n;
          over =
              (first_turn (groups q) (omega arith)).playing.values ∙ drop_of_length-le vs {i = groups q * c + 0} (omega (arith, long));
        }

-- ---- From the power-up on

pub plays_from : (q : Cut) (o : Ordered q) (v : ℕ) (s : State) → Playing q.mask v (eof_on_last (numbers q)) 0 s → OnItsOutput q v (λ n. after s (many_ticks n))
plays_from q o v s p = record { simultaneous = λ m. together q o v s m p; sequential = λ m. in_turn_lem q o v s m p }

-- boards that are the same play the same
pub same_boards : (q : Cut) (v : ℕ) (at at' : ℕ → State) → ((n : ℕ) → at n ≡ at' n) → OnItsOutput q v at → OnItsOutput q v at'
same_boards q v at at' e h = subst (OnItsOutput q v) (λ i n. e n i) h

-- the events es n on the board s, for each number n of ticks: nothing is refused or lost, and each channel plays on its output
pub record PlaysOut (q : Cut) (v : ℕ) (s : State) (es : ℕ → List Event) : Type 0 where
  pub fine : (n : ℕ) → Fine (outcomes s (es n))
  pub plays : OnItsOutput q v (λ n. after s (es n))

-- two parts of a session that leave the board ready, and the ticks behind them
pub parts_play : (q : Cut) (o : Ordered q) (v : ℕ) (s : State) (es fs : List Event) → Fine (outcomes s es) → Fine (outcomes (after s es) fs)
    → Playing q.mask v (eof_on_last (numbers q)) 0 (after (after s es) fs)
    → PlaysOut q v s (λ n. es ++ (fs ++ many_ticks n))
parts_play q o v s es fs f g p =
    record {
      fine = λ n. fine_append s es (fs ++ many_ticks n) f (fine_append (after s es) fs (many_ticks n) g (ticks_fine n _ p.stands));
      plays =
          same_boards q v _ _
          (λ n. sym (after_append s es (fs ++ many_ticks n) ∙ after_append (after s es) fs (many_ticks n)))
          (plays_from q o v (after (after s es) fs) p);
    }

-- the cut, then the two writes
pub cut_then_writes : (q : Cut) (s : State) (x : Settings) (v w : ℕ) (two : List Event)
    → Ordered q → Equipped q s x → Playable v w → EitherOrder v w two
    → PlaysOut q v (powered s x) (λ n. events q ++ (two ++ many_ticks n))
cut_then_writes q s x v w two o h p e =
    let still = (initial_takes x).uncalibrating in
    let d = cut_powered q s x o h in
    let b = two_done v w p d.end still two e in
    let r = b.written in
    let twenty = ap length r.levels ∙ initial_twenty x in
    parts_play q o v (powered s x) (events q) two d.fine b.fine
    (board_playing b.end (ready_to_play v w p r still q.mask b.core.outputs r.mask (r.cursor refl) twenty))

pub channel_plays : Channel-plays
channel_plays q s x v w two o h p e = (cut_then_writes q s x v w two o h p e).plays
