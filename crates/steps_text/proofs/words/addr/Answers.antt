use Rattle.std.proofs.Common.{◌≡◌, ◌*◌, refl}
use Rattle.a1_base.specs.declared.limits.TheConstants.{REGION_LIMIT}
use Rattle.steps_text.proofs.WordLemmas.{addr_read}
use Rattle.steps_text.proofs.words.addr.Goals as goal

pub returns : goal.returns
returns c =
    let words = c.in_ok-region_word in
    let limit : c.from.result * c.from-2.result ≡ REGION_LIMIT * c.args.nodes = rw (c.from.ensures, c.from-2.ensures) refl in
    let offset = rw c.from-3.ensures at c.in_ok-offset.ensures in
    addr_read c.args.nodes (c.from.result * c.from-2.result) c.in_ok-region.region c.in_ok-offset.offset c.args.word.now words.region_word.now words.offset_word.now
    limit words.ensures c.in_ok-region.ensures offset
