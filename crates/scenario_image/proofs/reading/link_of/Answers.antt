use Rattle.std.proofs.Common.{length, ap, arith}
use Rattle.std.proofs.lemmas.List.{length-drop}
use Rattle.scenario_image.proofs.reading.link_of.Goals as goal

pub lose_of-requires : goal.lose_of-requires
lose_of-requires c = omega (arith, c.requires, c.from.ensures, ap length c.behind.ensures, length-drop 42 c.args.bytes.now)
