use Rattle.scenario_asm.proofs.Whole.{no_byte_fault, no_wrong_kind, whole_err}
use Rattle.scenario_asm.proofs.draft.Draft.finish.Goals as goal

pub whole_fault-requires-clause-bytes : goal.whole_fault-requires-clause-bytes
whole_fault-requires-clause-bytes c = no_byte_fault _ _ c.in-Err.ensures.fault

pub whole_fault-requires-clause-kinds : goal.whole_fault-requires-clause-kinds
whole_fault-requires-clause-kinds c = no_wrong_kind _ _ _ _ c.requires c.in_ok-parts.ensures c.in-Err.ensures.fault

pub returns-in-Err : goal.returns-in-Err
returns-in-Err c = λ statements held. whole_err c.args.self statements _ _ _ _ held c.in-Set.is c.in_ok-parts.ensures c.in-Err.ensures.fault c.whole_fault.ensures
