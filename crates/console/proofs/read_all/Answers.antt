-- A piece that was read joins what stands at the front of buf.
use Rattle.std.proofs.Common.{◌≡◌, ℕ, ◌+◌, ◌-◌, ◌≤◌, List, ◌++◌, Option, None, Some, rules, length, take, sym, ap, ◌∙◌, subst, append_assoc, length-take-le}
use Rattle.std.proofs.Math.Seq.{take-append-add}
use Rattle.std.proofs.lemmas.List.{take-append-le}
use Rattle.std.specs.Io.KnownBytes.{Consumes}
use borrow.Rule.Slice.PartMut.{put_mid, post_of}
use Rattle.console.proofs.read_all.Goals as goal

take-put_mid-part : (n m k : ℕ) (xs ys : List ℕ) → n ≤ length xs → k ≤ length ys → take (n + k) (put_mid n m xs ys) ≡ take n xs ++ take k ys
take-put_mid-part n m k xs ys within fits =
    let after = post_of n m xs in
    ap (λ j. take (j + k) (take n xs ++ (ys ++ after))) (sym (length-take-le n xs within)) ∙ take-append-add (take n xs) (ys ++ after) k
    ∙ ap (λ l. take n xs ++ l) (take-append-le k ys after fits)

Consumes-trans : (a b c : Option (List ℕ)) (bs cs : List ℕ) → Consumes a b bs → Consumes b c cs → Consumes a c (bs ++ cs)
Consumes-trans None b c bs cs p q = tt
Consumes-trans (Some x) None c bs cs p q = absurd p
Consumes-trans (Some x) (Some y) None bs cs p q = absurd q
Consumes-trans (Some x) (Some y) (Some z) bs cs p q = p ∙ ap (λ l. bs ++ l) q ∙ sym (append_assoc bs cs z)

pub loop-n-preserved : goal.loop-n-preserved
loop-n-preserved g c =
    let part = take-put_mid-part c.loop-n.n (length c.loop-n.buf - c.loop-n.n) c.in_ok-k.k c.loop-n.buf c.read.new.buf c.loop-n.invariant.0 c.in_ok-k.ensures.bound.0 in
    (search rules, subst (Consumes _ _) (sym part) (Consumes-trans _ _ _ _ _ c.loop-n.invariant.1 c.in_ok-k.ensures.bytes.0))
