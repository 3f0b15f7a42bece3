-- What the loops over a session keep (specs/Draft.antt): from the start they have passed nothing; an event that was played and written is
-- passed; and at the end of the file all is written.
use Prim.Native.Nat.{ℕ, ◌+◌, ◌≤◌}
use mathlib.Core.Path.{◌≡◌, refl, sym, ap, subst, ◌∙◌}
use mathlib.Core.List.{List, ◌∷◌}
use native.Mathlib.Omega.{arith}
use native.Mathlib.Nat.{le_refl}
use lib.ListN.{length}
use Rattle.rules.specs.declared.Event.{Event}
use Rattle.rules.specs.declared.Board.{Board}
use Rattle.rules.specs.Record.{State, state_of, unpowered, start as initially}
use Rattle.rules.specs.Step.{step}
use Rattle.rules.specs.Numbered.{answer_of}
use Rattle.rules.specs.Session.{after}
use Rattle.laws.specs.Lasting.{InRun}
use Rattle.laws.proofs.Lasting.{in_run_kept}
use Rattle.file_rules.specs.Item.{End}
use Rattle.file_rules.specs.File.{session}
use Rattle.file_rules.proofs.Given.{item_grows}
use Rattle.board.specs.declared.Reply.{Reply}
use Rattle.board.specs.Promises.{Stepped}
use Rattle.listing_rules.specs.Text.{line}
use Rattle.listing_rules.proofs.Lengths.{line_length}
use Rattle.run.specs.declared.Cursor.{Cursor}
use Rattle.run.specs.Ahead.{Found, Over}
use Rattle.run.specs.Run.{found}
use Rattle.run.specs.Way.{Passes}
use Rattle.run.proofs.Ways.{event_stood, way_start, way_on, way_over}
use Rattle.file_rules.specs.Pieces.{Piece}
use Rattle.file_rules.proofs.Joined.{then, piece_length}
use Rattle.listing_rules.specs.Listing.{levels_of, ending, body}
use Rattle.listing.specs.declared.hurry.Reached.{Reached}
use Rattle.listing.specs.Draft.{Draft, draft, Page, Fills, Fair, Walked}
use Rattle.listing.proofs.Body.{body_event, body_end}

pub walked_start : (s : List ℕ) (c : Cursor) (k : Draft) → Fair s c k → Walked s c k c k
walked_start s c k f = record { fair = f; way = λ start w. w; nearer = le_refl _ }

pub walked_then : (s : List ℕ) (c : Cursor) (k : Draft) (c1 : Cursor) (k1 : Draft) (c2 : Cursor) (k2 : Draft)
    → Walked s c k c1 k1 → Walked s c1 k1 c2 k2 → Walked s c k c2 k2
walked_then s c k c1 k1 c2 k2 p q =
    record { fair = q.fair; way = λ start w. q.way start (p.way start w); nearer = omega (arith, p.nearer, q.nearer) }

module _ (s : List ℕ) (c : Cursor) (k : Reached) (m out : List ℕ) (f : Fair s c (draft k m out)) where
  pub tail_room : k.at + 134 ≤ length out
  tail_room = omega (arith, f.room)

  pub line_room : k.at + 64 ≤ length out
  line_room = omega (arith, f.room)

  pub number_small : length s ≤ 65536 → k.number ≤ 65537
  number_small h = omega (arith, f.numbered, f.within)

  module _ (after : Cursor) (e : Event) (h : found s c ≡ Found e after) (r : Reply) (m' out' : List ℕ) (at' : ℕ)
      (p : Stepped k.board m e r m') (w : Piece out k.at (line k.number (answer_of r.answer) r.board.ring.count) out' at') where
    left : (step (state_of k.board m) e).state ≡ state_of r.board m'
    left = sym (λ i. state_of (p.board i) (p.memory i))

    -- the line, and then the rest
    written : Passes Fills (draft k m out) e (draft (record { cursor = after; board = r.board; at = at'; number = k.number + 1 }) m' out')
    unfolding after
    written o x g =
        let told : Piece out k.at (line k.number (step (state_of k.board m) e).answer (step (state_of k.board m) e).state.board.ring.count) out' at' =
        subst (λ (l : List ℕ). Piece out k.at l out' at') (λ i. line k.number (p.answer i) (p.board i).ring.count) w in
        subst (λ (st : State). Fills o (record { out = out'; at = at'; number = k.number + 1; state = st }) x → Fills o (draft k m out) (record { events = e ∷ x.events; end = x.end })) left
        (λ v. record { text = rw (body_event k.number (state_of k.board m) e x) (then told v.text); memory = v.memory }) g

    pub walked_on : Walked s c (draft k m out) after (draft (record { cursor = after; board = r.board; at = at'; number = k.number + 1 }) m' out')
    walked_on =
        let grows = item_grows s c.place e after.place (event_stood s c after e h) in
        record {
          fair = record {
            within = grows.1;
            numbered = omega (arith, f.numbered, grows.0);
            room = omega (arith, f.room, grows.0, grows.1, piece_length w, w.place, line_length k.number (answer_of r.answer) r.board.ring.count);
            sound = subst InRun left (in_run_kept (state_of k.board m) e f.sound);
          };
          way = λ start v. way_on Page Draft Fills s start (draft k m out) (draft (record { cursor = after; board = r.board; at = at'; number = k.number + 1 }) m' out') c after e v h written;
          nearer = omega (arith, grows.0, grows.1);
        }

-- the whole file, from its start
pub walked_over : (s : List ℕ) (start : Draft) (c : Cursor) (k : Draft) (z : End) (out' : List ℕ) (at' : ℕ)
    → Walked s (record { place = 0 }) start c k → found s c ≡ Over z → Piece k.out k.at (ending z (levels_of k.state)) out' at'
    → Fills (record { out = out'; at = at'; memory = k.state.memory }) start (session s)
unfolding after
walked_over s start c k z out' at' p h w =
    way_over Page Draft Fills s start k c z _ (p.way start (way_start Page Draft Fills s start)) h
    (record { text = rw (body_end k.number k.state z) w; memory = refl })

-- the listing after its heading: from an unpowered board on all events are passed, and its end is written
pub body_written : (s m out : List ℕ) (b : Board) (at : ℕ) (c : Cursor) (k : Reached) (m1 out1 : List ℕ) (z : End) (out' : List ℕ) (at' : ℕ)
    → b ≡ unpowered
    → Walked s (record { place = 0 }) (draft (record { cursor = record { place = 0 }; board = b; at = at; number = 1 }) m out) c (draft k m1 out1)
    → found s c ≡ Over z
    → Piece out1 k.at (ending z k.board.core.outputs.levels) out' at'
    → Piece out at (body 1 (initially m) (session s)) out' at' × (m1 ≡ (after (initially m) (session s).events).memory)
body_written s m out b at c k m1 out1 z out' at' dark p h w =
    let over = walked_over s _ c (draft k m1 out1) z out' at' p h w in
    let start = ap (λ (x : Board). state_of x m) dark in (
      subst (λ (st : State). Piece out at (body 1 st (session s)) out' at') start over.text,
      over.memory ∙ ap (λ (st : State). (after st (session s).events).memory) start,
    )
