use mathlib.Core.Path.{◌≡◌, refl, sym, ap, subst, ◌∙◌}
use mathlib.Core.Bool.{false≢true}
use native.Mathlib.Omega.{arith}
use borrow.Author.Rules.{rules}
use Rattle.std.specs.Prelude.{Ok, Err, Some, None}
use Rattle.rules.specs.Types.{Answer}
use Rattle.rules.specs.declared.Board.{Board}
use Rattle.rules.specs.Record.{unpowered}
use Rattle.file_rules.specs.Item.{File, end_of}
use Rattle.file_rules.proofs.Given.{item_exactly}
use Rattle.file_rules.proofs.Sessions.{given_within}
use Rattle.file_rules.specs.Pieces.{Piece}
use Rattle.listing_rules.specs.Text.{line}
use Rattle.listing_rules.specs.Listing.{ending}
use Rattle.run.specs.Ahead.{ahead_of}
use Rattle.run.proofs.Ways.{end_stood, way_ends}
use Rattle.lines.proofs.Printing.{printed_piece}
use Rattle.listing.proofs.Body.{in_reach}
use Rattle.listing.proofs.Walking.{walked_start, walked_then, walked_on, body_written, tail_room, line_room, number_small}
use Rattle.listing.proofs.whole.put_body.Goals as goal

pub loop-event-init : goal.loop-event-init
unfolding unpowered
loop-event-init c =
    let dark = ap (λ (b : Board). b.core.powered) c.unpowered.ensures.told in (
      refl,
      refl,
      walked_start c.args.s.now _ _
          (record {
            within = omega arith;
            numbered = omega arith;
            room = omega (arith, c.requires.1);
            sound = λ k. absurd (false≢true (sym dark ∙ k));
          }),
    )

pub hurry-here-requires : goal.hurry-here-requires
hurry-here-requires c =
    (c.requires.0, c.loop-event.invariant.2.fair)

pub overflow_add-number : goal.overflow_add-number
overflow_add-number c =
    record { fits = omega (arith, number_small _ _ c.hurry-here.result _ _ c.hurry-here.ensures.fair c.requires.0) }

pub loop-event-smaller : goal.loop-event-smaller
loop-event-smaller c =
    let h = c.hurry-here.ensures in
    let here = c.hurry-here.result in
    let told : c.next.result ≡ Ok (Some (c.in-Ok-Some.event, c.in-Ok-Some.cursor)) = search (rules, c.in-Ok-Some.is, c.in-Ok-Some.field-0-is) in
    let stood = sym c.next.ensures.told ∙ ap ahead_of told in
    omega (arith, h.nearer, way_ends c.args.s.now here.cursor c.in-Ok-Some.cursor c.in-Ok-Some.event stood)

pub loop-event-preserved : goal.loop-event-preserved
loop-event-preserved c =
    let l = c.loop-event in
    let h = c.hurry-here.ensures in
    let here = c.hurry-here.result in
    let told : c.next.result ≡ Ok (Some (c.in-Ok-Some.event, c.in-Ok-Some.cursor)) = search (rules, c.in-Ok-Some.is, c.in-Ok-Some.field-0-is) in
    let stood = sym c.next.ensures.told ∙ ap ahead_of told in
    let f = h.fair in
    let text =
    subst (λ (a : Answer). Piece c.hurry-here.new.out here.at (line here.number a c.step-reply.result.board.ring.count) c.put_line-at.new.out c.put_line-at.result)
    c.from-answered.ensures
    (printed_piece c.put_line-at.ensures (line_room _ _ here _ _ f))
    in
    let on = walked_on _ here.cursor here _ _ f c.in-Ok-Some.cursor c.in-Ok-Some.event stood _ _ _ _ c.step-reply.ensures text in (
      c.step-reply.auto.memory ∙ c.hurry-here.auto.memory ∙ l.invariant.0,
      c.put_line-at.auto.out ∙ c.hurry-here.auto.out ∙ l.invariant.1,
      walked_then _ _ _ _ _ _ _ l.invariant.2 (walked_then _ _ _ _ _ _ _ h on),
    )

pub returns-in-Ok-None : goal.returns-in-Ok-None
unfolding ending
returns-in-Ok-None c =
    let a = c.args in
    let h = c.hurry-here.ensures in
    let here = c.hurry-here.result in
    let all = walked_then _ _ _ _ _ _ _ c.loop-event.invariant.2 h in
    let told : c.next.result ≡ Ok None = search (rules, c.in-Ok-None.is, c.in-Ok-None.field-0-is) in
    let stood = sym c.next.ensures.told ∙ ap ahead_of told in
    let tail = printed_piece c.put_tail.ensures (tail_room _ _ c.hurry-here.result _ _ h.fair) in
    body_written a.s.now a.memory.now a.out.now _ a.start here.cursor here _ _ File _ _ c.unpowered.ensures.told all stood tail

pub overflow_cast-error : goal.overflow_cast-error
overflow_cast-error c =
    let s = c.args.s.now in
    let h = c.hurry-here.ensures in
    let here = c.hurry-here.result in
    let end = end_of (Err c.in-Err.error) in
    let stood = end_stood s here.cursor end (sym c.next.ensures.told ∙ ap ahead_of c.in-Err.is) in
    let there = given_within s here.cursor.place _ ((item_exactly s here.cursor.place _).0 stood) in
    record { fits = in_reach s end c.requires.0 there }

pub returns-in-Err : goal.returns-in-Err
unfolding ending
returns-in-Err c =
    let a = c.args in
    let h = c.hurry-here.ensures in
    let here = c.hurry-here.result in
    let all = walked_then _ _ _ _ _ _ _ c.loop-event.invariant.2 h in
    let stood = sym c.next.ensures.told ∙ ap ahead_of c.in-Err.is in
    let tail = printed_piece (rw c.fault_number-number.ensures.told at c.put_tail-in-Err.ensures) (tail_room _ _ c.hurry-here.result _ _ h.fair) in
    body_written a.s.now a.memory.now a.out.now _ a.start here.cursor here _ _ (end_of (Err c.in-Err.error)) _ _ c.unpowered.ensures.told all stood tail
