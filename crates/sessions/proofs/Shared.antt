-- What a run that is shared out has written, and in how many groups its nodes are.
use Rattle.std.proofs.Common.{◌≡◌, ◌∙◌, inl, inr, ℕ, zero, suc, List, [], length, replicate, arith, Option, Err, refl, ap, length-append}
use Rattle.scenario_image.specs.declared.parts.ScenarioParts.{ScenarioParts}
use Rattle.table_run.specs.State.{initial}
use Rattle.window_core.specs.Partition.{alone}
use Rattle.window_text.proofs.Bytes.{appends_nothing}
use Rattle.sessions.specs.declared.fault.SessionFault.{SessionFault}
use Rattle.sessions.specs.declared.fault.SessionFault.TheVariants.{NoMemory, Groups}
use Rattle.sessions.specs.Ended.{SessionEnded, IsRunOutput}
use Rattle.sessions.specs.Groups.{MeansGroups}
use Rattle.sessions.specs.Nodes.{HasGroups, LacksGroups}
use Rattle.sessions.specs.Output.{IsSharedOutput}
use Rattle.sessions.specs.Written.{Writes}

-- there were no groups, or no memory for them, and nothing was written
pub not_shared : (groups : List ℕ) (parts : ScenarioParts) (fault : SessionFault) (known : Option (List ℕ)) → LacksGroups groups parts fault → Writes (IsSharedOutput groups parts (Err fault)) known known
not_shared groups parts NoMemory known lacks = ([], appends_nothing known, inl refl)
not_shared groups parts Groups known lacks = ([], appends_nothing known, (lacks, refl))
not_shared groups parts _ known lacks = absurd lacks

shared_output : (groups : List ℕ) (parts : ScenarioParts) (ended : SessionEnded) (out : List ℕ) → HasGroups groups parts → IsRunOutput (initial parts) ended out → IsSharedOutput groups parts ended out
shared_output groups parts (Err Groups) out has made = absurd made
shared_output groups parts (Err NoMemory) out has made = inr (has, made)
shared_output groups parts _ out has made = (has, made)

-- there were groups, and the scenario was run
pub ran_shared : (groups : List ℕ) (parts : ScenarioParts) (ended : SessionEnded) (a b : Option (List ℕ)) → HasGroups groups parts → Writes (IsRunOutput (initial parts) ended) a b
    → Writes (IsSharedOutput groups parts ended) a b
ran_shared groups parts ended a b has wrote = (wrote.0, wrote.1, shared_output groups parts ended wrote.0 has wrote.2)

length-replicate : (count value : ℕ) → length (replicate count value) ≡ count
length-replicate zero value = refl
length-replicate (suc count) value = ap suc (length-replicate count value)

length-alone : (count : ℕ) → length (alone count) ≡ count
length-alone zero = refl
length-alone (suc count) = let rest = length-alone count in length-append (alone count) _ ∙ omega (arith, rest)

-- there is a group for each node
pub one_group_each : (text : List ℕ) (nodes : ℕ) (entries : List ℕ) → MeansGroups text nodes entries → length entries ≡ nodes
one_group_each text nodes entries (inl one) = ap length one.1 ∙ length-replicate nodes 0
one_group_each text nodes entries (inr (inl each)) = ap length each.1 ∙ length-alone nodes
one_group_each text nodes entries (inr (inr lists)) = lists.one_each
