use Rattle.std.proofs.Common.{◌≡◌, List, ℕ, Option, IfOk, IfErr, sym, subst}
use Rattle.sessions.specs.Named.{IsInputFault, input_reads_after, known_of}
use Rattle.sessions.specs.Streams.{IsInputOf}
use Rattle.sessions.proofs.Overs.{where_none, where_some}
use Rattle.sessions.proofs.input.read_named.Goals as goal

pub returns-in-Some-clause-input : goal.returns-in-Some-clause-input
returns-in-Some-clause-input g c =
    let known = g.R.Source.remaining c.args.reader.now in
    let bytes_of = g.R.Source.bytes_of c.args.reader.now in
    subst (λ (f : Option (List ℕ)). IfOk c.read_file.result (λ input. IsInputOf (known_of f known bytes_of) input.items)) (sym (where_some _ _ _ _ c.get.ensures c.in-Some.is)) c.read_file.ensures.input

pub returns-in-Some-clause-faults : goal.returns-in-Some-clause-faults
returns-in-Some-clause-faults g c =
    let known = g.R.Source.remaining c.args.reader.now in
    let bytes_of = g.R.Source.bytes_of c.args.reader.now in
    subst (λ (f : Option (List ℕ)). IfErr c.read_file.result (λ fault. (input : List ℕ) × IsInputOf (known_of f known bytes_of) input × IsInputFault f input fault)) (sym (where_some _ _ _ _ c.get.ensures c.in-Some.is))
    c.read_file.ensures.faults

pub returns-in-Some-clause-failures : goal.returns-in-Some-clause-failures
returns-in-Some-clause-failures g c =
    let failed = g.R.Source.failures in
    subst (λ (f : Option (List ℕ)). failed c.read_file.new.reader ≡ input_reads_after f c.read_file.result (failed c.args.reader.now)) (sym (where_some _ _ _ _ c.get.ensures c.in-Some.is)) c.read_file.ensures.failures

pub returns-in-None-clause-input : goal.returns-in-None-clause-input
returns-in-None-clause-input g c =
    let known = g.R.Source.remaining c.args.reader.now in
    let bytes_of = g.R.Source.bytes_of c.args.reader.now in
    subst (λ (f : Option (List ℕ)). IfOk c.read_input.result (λ input. IsInputOf (known_of f known bytes_of) input.items)) (sym (where_none _ _ _ c.get.ensures c.in-None.is)) c.read_input.ensures.input

pub returns-in-None-clause-faults : goal.returns-in-None-clause-faults
returns-in-None-clause-faults g c =
    let known = g.R.Source.remaining c.args.reader.now in
    let bytes_of = g.R.Source.bytes_of c.args.reader.now in
    subst (λ (f : Option (List ℕ)). IfErr c.read_input.result (λ fault. (input : List ℕ) × IsInputOf (known_of f known bytes_of) input × IsInputFault f input fault)) (sym (where_none _ _ _ c.get.ensures c.in-None.is))
    c.read_input.ensures.faults

pub returns-in-None-clause-failures : goal.returns-in-None-clause-failures
returns-in-None-clause-failures g c =
    let failed = g.R.Source.failures in
    subst (λ (f : Option (List ℕ)). failed c.read_input.new.reader ≡ input_reads_after f c.read_input.result (failed c.args.reader.now)) (sym (where_none _ _ _ c.get.ensures c.in-None.is)) c.read_input.ensures.failures
