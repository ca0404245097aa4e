use Rattle.std.proofs.Common.{◌≡◌, ◌+◌, ◌++◌, ◌∙◌, sym, ap, subst, refl}
use Rattle.std.specs.List.{concat}
use Rattle.debugger.specs.declared.passed.Stretch.{Stretch}
use Rattle.debugger.specs.Moves.{HasPosition}
use Rattle.debugger.specs.Passed.{stretch_texts}
use Rattle.debugger.proofs.Between.{on_ok}
use Rattle.debug_session.specs.Reported.{passed_count, shown_stretch}
use Rattle.debug_session.specs.TypedMoves.{lowest, passed, last_ten}
use Rattle.debug_session.proofs.TypedMoving.{has_stretch, passed_reported}
use Rattle.debug_session.proofs.typed_move.append_passed.Goals as goal

pub append_lines-requires : goal.append_lines-requires
append_lines-requires c =
    let d = c.args.debugger.now in
    let stretch : c.shown_stretch-stretch.result ≡ shown_stretch c.args.from (lowest c.args.bound d.shown.position) d.shown.position =
    c.shown_stretch-stretch.ensures ∙ ap (λ l. shown_stretch c.args.from l c.position-to.result) c.lowest-low.ensures ∙ ap (λ p. shown_stretch c.args.from (lowest c.args.bound p) p) c.position-to.ensures.count in
    subst (λ (s : Stretch). HasPosition d.start (s.from + s.count)) (sym stretch)
    (has_stretch d.start c.args.from c.args.bound d.shown c.requires c.position-to.ensures.on_run)

pub returns-in-Ok-clause-ok : goal.returns-in-Ok-clause-ok
returns-in-Ok-clause-ok c =
    let d = c.args.debugger.now in
    let out = c.args.out.now.items in
    let made = c.append_more.new.out.items in
    let all = c.append_lines.new.out.items in
    let stretch : c.shown_stretch-stretch.result ≡ shown_stretch c.args.from (lowest c.args.bound d.shown.position) d.shown.position =
    c.shown_stretch-stretch.ensures ∙ ap (λ l. shown_stretch c.args.from l c.position-to.result) c.lowest-low.ensures ∙ ap (λ p. shown_stretch c.args.from (lowest c.args.bound p) p) c.position-to.ensures.count in
    let count : c.passed_count.result ≡ passed_count c.args.from (lowest c.args.bound d.shown.position) d.shown.position =
    c.passed_count.ensures ∙ ap (λ l. passed_count c.args.from l c.position-to.result) c.lowest-low.ensures ∙ ap (λ p. passed_count c.args.from (lowest c.args.bound p) p) c.position-to.ensures.count in
    on_ok {P = all ≡ made ++ concat (stretch_texts d.start c.shown_stretch-stretch.result)} {Q = all ≡ out ++ last_ten (passed d.start c.args.from c.args.bound d.shown.position)} c.append_lines.result
    (λ lines. passed_reported d.start c.args.from c.args.bound d.shown c.requires c.position-to.ensures.on_run out made all c.passed_count.result c.in-Ok.ensures count
    (lines ∙ ap (λ (s : Stretch). made ++ concat (stretch_texts d.start s)) stretch))
    c.append_lines.ensures.ok

pub returns-in-Ok-clause-same : goal.returns-in-Ok-clause-same
returns-in-Ok-clause-same c = c.append_lines.ensures.same

pub returns-in-Err-clause-same : goal.returns-in-Err-clause-same
returns-in-Err-clause-same c = refl
