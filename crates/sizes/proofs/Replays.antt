-- The loop of one replay: it is on its way with the state that it holds, and knows whether nothing was lost so far.
use Prim.Native.Nat.{ℕ}
use mathlib.Core.Path.{◌≡◌, refl, sym, ap, subst, ◌∙◌}
use mathlib.Core.Bool.{Bool, true, not, ◌&&◌, and_assoc}
use mathlib.Core.List.{List, []}
use lib.Dec.{eqb}
use lib.ListN.{length}
use Rattle.rules.specs.declared.Event.{Event}
use Rattle.rules.specs.declared.Board.{Board}
use Rattle.rules.specs.Types.{Answer}
use Rattle.rules.specs.Numbered.{answer_of}
use Rattle.rules.specs.Record.{State, state_of, unpowered}
use Rattle.rules.specs.Step.{Outcome, step}
use Rattle.rules.specs.Session.{after}
use Rattle.rules.proofs.Choice.{and_true}
use Rattle.file_rules.specs.Item.{End}
use Rattle.file_rules.specs.File.{Session}
use Rattle.board.specs.declared.Reply.{Reply}
use Rattle.board.specs.Promises.{Stepped}
use Rattle.run.specs.declared.Cursor.{Cursor}
use Rattle.run.specs.Ahead.{Found, Over}
use Rattle.run.specs.Run.{found}
use Rattle.run.specs.Way.{Way, Passes}
use Rattle.run.proofs.Ways.{way_start, way_on, way_over}
use Rattle.size_rules.specs.Coded.{sized, sized_all}
use Rattle.demand3.specs.Demand3.{loses_nothing}
use Rattle.sizes.specs.Replaying.{ReplayTold}

-- ---- What comes of a session

pub record Replay : Type 0 where
  pub state : State
  pub whole : Bool

module _ (k : ℕ) where
  pub record Comes (o a : Replay) (x : Session) : Type 0 where
    pub state : o.state ≡ after a.state (sized_all k x.events)
    pub whole : o.whole ≡ a.whole && loses_nothing a.state (sized_all k x.events)

  abbrev onward : Replay → Event → Replay
  onward a e =
      let r : Outcome = step a.state (sized k e) in
      record { state = r.state; whole = a.whole && not (eqb r.answer.fate 2) }

  -- an event that is played
  played : (a : Replay) (e : Event) → Passes Comes a e (onward a e)
  unfolding after loses_nothing sized_all
  played a e o x g = record { state = g.state; whole = g.whole ∙ and_assoc a.whole _ _ }

  -- and the end of the file
  ended : (a : Replay) (x : End) → Comes a a (record { events = []; end = x })
  unfolding after loses_nothing sized_all
  ended a x = record { state = refl; whole = sym (and_true a.whole) }

  -- ---- The loop

  abbrev replay_of : Board → List ℕ → Bool → Replay
  replay_of b m t = record { state = state_of b m; whole = t }

  abbrev OnWay : (s m : List ℕ) → Replay → Cursor → Type 0
  OnWay s m a c = Way Comes s (replay_of unpowered m true) a c

  -- it stands at the cursor c of the file s with the board b and its memory; m is the memory at the start
  pub record Replaying (s m memory : List ℕ) (b : Board) (c : Cursor) (t : Bool) : Type 0 where
    pub long : length memory ≡ length m
    pub way : OnWay s m (replay_of b memory t) c

  pub replaying_start : (s m : List ℕ) (b : Board) → b ≡ unpowered → Replaying s m m b (record { place = 0 }) true
  replaying_start s m b e =
      record {
        long = refl;
        way = subst (λ (x : Board). OnWay s m (replay_of x m true) (record { place = 0 })) (sym e) (way_start Replay Replay Comes s (replay_of unpowered m true));
      }

  module _ {s m memory : List ℕ} {b : Board} {c : Cursor} {t : Bool} (r : Replaying s m memory b c t) where
    pub replaying_on : (e e' : Event) (after : Cursor) (o : Reply) (lost : Bool) (memory' : List ℕ) → found s c ≡ Found e after → e' ≡ sized k e
        → Stepped b memory e' o memory'
        → lost ≡ eqb (answer_of o.answer).fate 2
        → length memory' ≡ length memory
        → Replaying s m memory' o.board after (t && not lost)
    replaying_on e e' after o lost memory' f q p h l =
        let here : Replay = replay_of b memory t in
        let on = way_on Replay Replay Comes s (replay_of unpowered m true) here (onward here e) c after e r.way f (played here e) in
        let boards = p.board ∙ ap (λ (d : Event). (step (state_of b memory) d).state.board) q in
        let memories = p.memory ∙ ap (λ (d : Event). (step (state_of b memory) d).state.memory) q in
        let fates = h ∙ ap (λ (a : Answer). eqb a.fate 2) p.answer ∙ ap (λ (d : Event). eqb (step (state_of b memory) d).answer.fate 2) q in
        record {
          long = l ∙ r.long;
          way = subst (λ (x : Replay). OnWay s m x after)
              (λ i. replay_of ((sym boards) i) ((sym memories) i) (t && not ((sym fates) i)))
              on;
        }

    pub replaying_over : (end : End) → found s c ≡ Over end → ReplayTold s m k t memory
    replaying_over end f =
        let here : Replay = replay_of b memory t in
        let o = way_over Replay Replay Comes s (replay_of unpowered m true) here c end here r.way f (ended here end) in
        record { whole = o.whole; memory = ap (λ (x : State). x.memory) o.state }
