use Rattle.std.proofs.Common.{◌≡◌, ◌<◌, ◌∙◌, ap, arith, get_or, length, length-append, List, subst, take, ℕ}
use Rattle.std.specs.Io.KnownBytes.{Appends}
use Rattle.window_text.specs.Parts.{bytes_at, text_of}
use Rattle.window_text.specs.Puts.{TakesFirst}
use Rattle.window_text.proofs.Parted.{none, part_broken, part_taken, text_of-more}
use Rattle.window_text.proofs.text.Text.put.Goals as goal

pub returns-in-Err-clause-err : goal.returns-in-Err-clause-err
returns-in-Err-clause-err g c =
    let contents = g.S.Sink.contents in
    let was = c.loop-place.invariant in
    let ss = c.args.self.now.formatters.items in
    let ps = c.args.self.now.places.items in
    let i = c.loop-place.place-index in
    let within : i < length ps = omega (arith, c.loop-place-test.true, ap length c.as_slice-place-items.ensures.value) in
    let is : c.bytes_of-bytes.result.now ≡ bytes_at ss (get_or ps i none) = c.bytes_of-bytes.ensures ∙ (λ k. bytes_at (c.as_slice.ensures.value k) (get_or (c.as_slice-place-items.ensures.value k) i none)) in
    part_broken ss ps i c.loop-place.done c.in-Err.count none (contents c.args.sink.now) (contents c.loop-place.sink) (contents c.put_all.new.sink) within was.1 was.0
    (subst (λ (bytes : List ℕ). TakesFirst c.in-Err.count bytes (contents c.loop-place.sink) (contents c.put_all.new.sink)) is c.in-Err.ensures.err)

pub loop-place-preserved : goal.loop-place-preserved
loop-place-preserved g c =
    let contents = g.S.Sink.contents in
    let was = c.loop-place.invariant in
    let ss = c.args.self.now.formatters.items in
    let ps = c.args.self.now.places.items in
    let i = c.loop-place.place-index in
    let within : i < length ps = omega (arith, c.loop-place-test.true, ap length c.as_slice-place-items.ensures.value) in
    let is : c.bytes_of-bytes.result.now ≡ bytes_at ss (get_or ps i none) = c.bytes_of-bytes.ensures ∙ (λ k. bytes_at (c.as_slice.ensures.value k) (get_or (c.as_slice-place-items.ensures.value k) i none)) in (
      part_taken ss ps i none (contents c.args.sink.now) (contents c.loop-place.sink) (contents c.put_all.new.sink) within was.0 (subst (Appends (contents c.loop-place.sink) (contents c.put_all.new.sink)) is c.in-Ok.ensures.ok),
      omega (arith, was.1, ap length (text_of-more ss ps i none within), length-append (text_of ss (take i ps)) (bytes_at ss (get_or ps i none)), ap length is),
      omega (arith, was.2, c.bytes_of-bytes.type_inv),
      c.in-Ok.ensures.failures ∙ was.3,
    )
