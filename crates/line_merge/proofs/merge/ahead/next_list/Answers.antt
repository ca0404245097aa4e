use Rattle.std.proofs.Common.{◌≡◌, length, map, arith}
use Rattle.line_merge.specs.Merged.{first_key, rests}
use Rattle.line_merge.proofs.Ahead.{least_leads, length_ranks, some_ranked}
use Rattle.std.proofs.Common.{refl}
use Rattle.line_merge.proofs.merge.ahead.next_list.Goals as goal

pub leader-requires : goal.leader-requires
leader-requires c = some_ranked c.args.lists.now c.args.nexts.now c.args.tournament.now (c.requires.ahead.many c.if-lists-gt-FEW.true) c.requires.some

pub returns-clause-next : goal.returns-clause-next
returns-clause-next c =
    let lists = c.args.lists.now in
    let nexts = c.args.nexts.now in
    let size : length c.args.moments.now ≡ length lists = c.requires.ahead.dates in
    least_leads (map first_key (rests lists nexts)) c.args.moments.now (length lists) c.least_of-list.result.0
    (length_ranks lists nexts)
    (c.requires.ahead.few c.if-lists-gt-FEW.false)
    (let within = c.least_of-list.ensures.within in omega (arith, within, size))
    (λ i under off. c.least_of-list.ensures.least c.if-tied.false i (omega (arith, under, size)) off)
    (some_ranked lists nexts (map first_key (rests lists nexts)) refl c.requires.some)
