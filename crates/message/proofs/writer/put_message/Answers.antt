-- Each step puts the next piece after what has been written.
use Prim.Native.Nat.{ℕ, ◌+◌, ◌≤◌}
use mathlib.Core.Path.{◌≡◌, refl, ap, ◌∙◌}
use mathlib.Core.List.{List, ◌++◌}
use native.Mathlib.Omega.{arith}
use lib.ListN.{length, length-append}
use Rattle.numbers.specs.Numbers.{bytes_of, pasted}
use Rattle.numbers.proofs.Laws.{bytes_length}
use Rattle.message.specs.Messages.{field_bytes}
use Rattle.numbers.proofs.Pasting.{Wrote, wrote_room, wrote_more}
use Rattle.message.proofs.Pieces.{joined, piece_fits}
use Rattle.message.proofs.writer.put_message.Goals as goal

pub put_front-requires : goal.put_front-requires
put_front-requires c =
    let front_eight : length (bytes_of 2 c.args.message.mti ++ bytes_of 6 c.args.message.source) ≡ 8 = let mti = bytes_of 2 c.args.message.mti in let source = bytes_of 6 c.args.message.source in omega (arith, length-append mti source, bytes_length 2 c.args.message.mti, bytes_length 6 c.args.message.source) in
    let fits : (length (bytes_of 2 c.args.message.mti ++ bytes_of 6 c.args.message.source) ≤ length c.args.out.now) × (length ((bytes_of 2 c.args.message.mti ++ bytes_of 6 c.args.message.source) ++ (field_bytes 6 c.args.message.destination)) ≤ length c.args.out.now) × (length ((bytes_of 2 c.args.message.mti ++ bytes_of 6 c.args.message.source) ++ (field_bytes 6 c.args.message.destination) ++ (field_bytes 8 c.args.message.event)) ≤ length c.args.out.now) × (length ((bytes_of 2 c.args.message.mti ++ bytes_of 6 c.args.message.source) ++ (field_bytes 6 c.args.message.destination) ++ (field_bytes 8 c.args.message.event) ++ c.args.body.now) ≤ length c.args.out.now) = let h = piece_fits (bytes_of 2 c.args.message.mti) (bytes_of 6 c.args.message.source) (field_bytes 6 c.args.message.destination) (field_bytes 8 c.args.message.event) c.args.body.now c.requires in (h.1, h.2, h.3, h.4) in
    omega (arith, front_eight, fits.0)

pub put_field-after_destination-requires : goal.put_field-after_destination-requires
put_field-after_destination-requires c =
    let front_eight : length (bytes_of 2 c.args.message.mti ++ bytes_of 6 c.args.message.source) ≡ 8 = let mti = bytes_of 2 c.args.message.mti in let source = bytes_of 6 c.args.message.source in omega (arith, length-append mti source, bytes_length 2 c.args.message.mti, bytes_length 6 c.args.message.source) in
    let fits : (length (bytes_of 2 c.args.message.mti ++ bytes_of 6 c.args.message.source) ≤ length c.args.out.now) × (length ((bytes_of 2 c.args.message.mti ++ bytes_of 6 c.args.message.source) ++ (field_bytes 6 c.args.message.destination)) ≤ length c.args.out.now) × (length ((bytes_of 2 c.args.message.mti ++ bytes_of 6 c.args.message.source) ++ (field_bytes 6 c.args.message.destination) ++ (field_bytes 8 c.args.message.event)) ≤ length c.args.out.now) × (length ((bytes_of 2 c.args.message.mti ++ bytes_of 6 c.args.message.source) ++ (field_bytes 6 c.args.message.destination) ++ (field_bytes 8 c.args.message.event) ++ c.args.body.now) ≤ length c.args.out.now) = let h = piece_fits (bytes_of 2 c.args.message.mti) (bytes_of 6 c.args.message.source) (field_bytes 6 c.args.message.destination) (field_bytes 8 c.args.message.event) c.args.body.now c.requires in (h.1, h.2, h.3, h.4) in
    let wrote_front : Wrote c.args.out.now (bytes_of 2 c.args.message.mti ++ bytes_of 6 c.args.message.source) 8 c.put_front.new.out = record { place = omega (arith, front_eight); left = c.put_front.ensures } in
    wrote_room wrote_front (field_bytes 6 c.args.message.destination) fits.1

pub put_field-after_event-requires : goal.put_field-after_event-requires
put_field-after_event-requires c =
    let front_eight : length (bytes_of 2 c.args.message.mti ++ bytes_of 6 c.args.message.source) ≡ 8 = let mti = bytes_of 2 c.args.message.mti in let source = bytes_of 6 c.args.message.source in omega (arith, length-append mti source, bytes_length 2 c.args.message.mti, bytes_length 6 c.args.message.source) in
    let fits : (length (bytes_of 2 c.args.message.mti ++ bytes_of 6 c.args.message.source) ≤ length c.args.out.now) × (length ((bytes_of 2 c.args.message.mti ++ bytes_of 6 c.args.message.source) ++ (field_bytes 6 c.args.message.destination)) ≤ length c.args.out.now) × (length ((bytes_of 2 c.args.message.mti ++ bytes_of 6 c.args.message.source) ++ (field_bytes 6 c.args.message.destination) ++ (field_bytes 8 c.args.message.event)) ≤ length c.args.out.now) × (length ((bytes_of 2 c.args.message.mti ++ bytes_of 6 c.args.message.source) ++ (field_bytes 6 c.args.message.destination) ++ (field_bytes 8 c.args.message.event) ++ c.args.body.now) ≤ length c.args.out.now) = let h = piece_fits (bytes_of 2 c.args.message.mti) (bytes_of 6 c.args.message.source) (field_bytes 6 c.args.message.destination) (field_bytes 8 c.args.message.event) c.args.body.now c.requires in (h.1, h.2, h.3, h.4) in
    let wrote_front : Wrote c.args.out.now (bytes_of 2 c.args.message.mti ++ bytes_of 6 c.args.message.source) 8 c.put_front.new.out = record { place = omega (arith, front_eight); left = c.put_front.ensures } in
    let wrote_destination : Wrote c.args.out.now ((bytes_of 2 c.args.message.mti ++ bytes_of 6 c.args.message.source) ++ (field_bytes 6 c.args.message.destination)) c.put_field-after_destination.result c.put_field-after_destination.new.out = wrote_more wrote_front (field_bytes 6 c.args.message.destination) fits.1 c.put_field-after_destination.ensures.value c.put_field-after_destination.ensures.out_after in
    wrote_room wrote_destination (field_bytes 8 c.args.message.event) fits.2

pub put_body-requires : goal.put_body-requires
put_body-requires c =
    let front_eight : length (bytes_of 2 c.args.message.mti ++ bytes_of 6 c.args.message.source) ≡ 8 = let mti = bytes_of 2 c.args.message.mti in let source = bytes_of 6 c.args.message.source in omega (arith, length-append mti source, bytes_length 2 c.args.message.mti, bytes_length 6 c.args.message.source) in
    let fits : (length (bytes_of 2 c.args.message.mti ++ bytes_of 6 c.args.message.source) ≤ length c.args.out.now) × (length ((bytes_of 2 c.args.message.mti ++ bytes_of 6 c.args.message.source) ++ (field_bytes 6 c.args.message.destination)) ≤ length c.args.out.now) × (length ((bytes_of 2 c.args.message.mti ++ bytes_of 6 c.args.message.source) ++ (field_bytes 6 c.args.message.destination) ++ (field_bytes 8 c.args.message.event)) ≤ length c.args.out.now) × (length ((bytes_of 2 c.args.message.mti ++ bytes_of 6 c.args.message.source) ++ (field_bytes 6 c.args.message.destination) ++ (field_bytes 8 c.args.message.event) ++ c.args.body.now) ≤ length c.args.out.now) = let h = piece_fits (bytes_of 2 c.args.message.mti) (bytes_of 6 c.args.message.source) (field_bytes 6 c.args.message.destination) (field_bytes 8 c.args.message.event) c.args.body.now c.requires in (h.1, h.2, h.3, h.4) in
    let wrote_front : Wrote c.args.out.now (bytes_of 2 c.args.message.mti ++ bytes_of 6 c.args.message.source) 8 c.put_front.new.out = record { place = omega (arith, front_eight); left = c.put_front.ensures } in
    let wrote_destination : Wrote c.args.out.now ((bytes_of 2 c.args.message.mti ++ bytes_of 6 c.args.message.source) ++ (field_bytes 6 c.args.message.destination)) c.put_field-after_destination.result c.put_field-after_destination.new.out = wrote_more wrote_front (field_bytes 6 c.args.message.destination) fits.1 c.put_field-after_destination.ensures.value c.put_field-after_destination.ensures.out_after in
    let wrote_event : Wrote c.args.out.now ((bytes_of 2 c.args.message.mti ++ bytes_of 6 c.args.message.source) ++ (field_bytes 6 c.args.message.destination) ++ (field_bytes 8 c.args.message.event)) c.put_field-after_event.result c.put_field-after_event.new.out = wrote_more wrote_destination (field_bytes 8 c.args.message.event) fits.2 c.put_field-after_event.ensures.value c.put_field-after_event.ensures.out_after in
    wrote_room wrote_event c.args.body.now fits.3

pub returns : goal.returns
returns c =
    let front_eight : length (bytes_of 2 c.args.message.mti ++ bytes_of 6 c.args.message.source) ≡ 8 = let mti = bytes_of 2 c.args.message.mti in let source = bytes_of 6 c.args.message.source in omega (arith, length-append mti source, bytes_length 2 c.args.message.mti, bytes_length 6 c.args.message.source) in
    let fits : (length (bytes_of 2 c.args.message.mti ++ bytes_of 6 c.args.message.source) ≤ length c.args.out.now) × (length ((bytes_of 2 c.args.message.mti ++ bytes_of 6 c.args.message.source) ++ (field_bytes 6 c.args.message.destination)) ≤ length c.args.out.now) × (length ((bytes_of 2 c.args.message.mti ++ bytes_of 6 c.args.message.source) ++ (field_bytes 6 c.args.message.destination) ++ (field_bytes 8 c.args.message.event)) ≤ length c.args.out.now) × (length ((bytes_of 2 c.args.message.mti ++ bytes_of 6 c.args.message.source) ++ (field_bytes 6 c.args.message.destination) ++ (field_bytes 8 c.args.message.event) ++ c.args.body.now) ≤ length c.args.out.now) = let h = piece_fits (bytes_of 2 c.args.message.mti) (bytes_of 6 c.args.message.source) (field_bytes 6 c.args.message.destination) (field_bytes 8 c.args.message.event) c.args.body.now c.requires in (h.1, h.2, h.3, h.4) in
    let wrote_front : Wrote c.args.out.now (bytes_of 2 c.args.message.mti ++ bytes_of 6 c.args.message.source) 8 c.put_front.new.out = record { place = omega (arith, front_eight); left = c.put_front.ensures } in
    let wrote_destination : Wrote c.args.out.now ((bytes_of 2 c.args.message.mti ++ bytes_of 6 c.args.message.source) ++ (field_bytes 6 c.args.message.destination)) c.put_field-after_destination.result c.put_field-after_destination.new.out = wrote_more wrote_front (field_bytes 6 c.args.message.destination) fits.1 c.put_field-after_destination.ensures.value c.put_field-after_destination.ensures.out_after in
    let wrote_event : Wrote c.args.out.now ((bytes_of 2 c.args.message.mti ++ bytes_of 6 c.args.message.source) ++ (field_bytes 6 c.args.message.destination) ++ (field_bytes 8 c.args.message.event)) c.put_field-after_event.result c.put_field-after_event.new.out = wrote_more wrote_destination (field_bytes 8 c.args.message.event) fits.2 c.put_field-after_event.ensures.value c.put_field-after_event.ensures.out_after in
    let all = wrote_more wrote_event c.args.body.now fits.3 {next = c.put_field-after_event.result + length c.args.body.now} refl c.put_body.ensures in
    let m = c.args.message in
    all.left ∙ ap (λ (l : List ℕ). pasted 0 l c.args.out.now) (joined (bytes_of 2 m.mti) (bytes_of 6 m.source) (field_bytes 6 c.args.message.destination) (field_bytes 8 c.args.message.event) c.args.body.now)
