use Rattle.std.proofs.Common.{◌≡◌, ◌+◌, ◌<◌, ◌∙◌, suc, refl, sym, ap, take, length, slice_index, arith}
use Rattle.asm_tokens.specs.Places.{after_byte, place_after}
use Rattle.asm_tokens.proofs.PlaceLemmas.{byte_grows, place_more}
use Rattle.asm_tokens.proofs.place.Place.after.Goals as goal

pub loop-byte-init : goal.loop-byte-init
unfolding place_after
loop-byte-init c = record { is = refl; line = omega arith; column = omega arith }

pub loop-byte-preserved : goal.loop-byte-preserved
loop-byte-preserved c =
    let i = c.loop-byte.byte-index in
    let bytes = c.args.bytes.now in
    let within : i < length bytes = omega arith in
    let next : suc i ≡ i + 1 = omega arith in
    let grows = byte_grows c.loop-byte.place (slice_index bytes i) in
    record {
      is = c.after_byte-place.ensures ∙ ap (λ p. after_byte p (slice_index bytes i)) c.loop-byte.invariant.is
          ∙ sym (place_more c.args.self bytes i within) ∙ ap (λ n. place_after c.args.self (take n bytes)) next;
      line = omega (arith, ap (λ p. p.line) c.after_byte-place.ensures, grows.0, c.loop-byte.invariant.line);
      column = omega (arith, ap (λ p. p.column) c.after_byte-place.ensures, grows.1, c.loop-byte.invariant.column);
    }
