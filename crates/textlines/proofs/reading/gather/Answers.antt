use Rattle.std.proofs.Common.{◌≢◌, [], ◌∷◌, option_to_list, subst, sym, ap, rules}
use Rattle.std.specs.Io.KnownBytes.{Consumes}
use Rattle.std.proofs.KnownBytes.{Consumes-trans}
use Rattle.std.proofs.lemmas.List.Elements.{All-push}
use Rattle.textlines.proofs.FirstLine.{IsOneLine}
use Rattle.textlines.proofs.reading.gather.Goals as goal

pub loop-reader-preserved : goal.loop-reader-preserved
loop-reader-preserved g c =
    let now = c.loop-reader.line.items in
    let byte = c.in-Some.byte in
    let items = sym c.in_ok-push-in-Some.ensures.items in
    let given = subst (Consumes _ _) (ap option_to_list c.in-Some.is) c.in_ok-next_byte.ensures.taken in
    record {
      taken = subst (Consumes _ _) items (Consumes-trans _ _ _ now (byte ∷ []) c.loop-reader.invariant.taken given);
      one_line = subst IsOneLine items (All-push (λ x. x ≢ 10) now byte c.loop-reader.invariant.one_line c.in-Some.byte-test.1);
      room = search rules;
    }
