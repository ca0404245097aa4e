use Rattle.std.proofs.Common.{◌≡◌, ◌<◌, [], ℕ, List, length, get_or, sym, ap, subst, ◌∙◌, arith}
use Rattle.std.proofs.lemmas.List.{get_or_read}
use Rattle.node_core.specs.TraceLine.{TraceLine}
use Rattle.line_merge.specs.Merged.{AreApart, line_in, lines_of}
use Rattle.line_merge.specs.Sheaves.{SheafValue, CursorValue}
use Rattle.line_merge.proofs.Ahead.{taken_ahead}
use Rattle.line_merge.proofs.Rests.{IsTaken}
use Rattle.line_merge.proofs.Sheaves.{first_left}
use Rattle.line_merge.proofs.sheaf.Sheaf.next_in.Goals as goal

pub index-lines-requires : goal.index-lines-requires
index-lines-requires c =
    let s = c.args.self.now in
    let lists : c.self.inside.lists.items ≡ s.lists = ap (λ (x : SheafValue). x.lists) c.self.view_is in
    let apart : AreApart s.lists = subst AreApart lists c.self.invariant.apart in
    let taken : IsTaken s.lists c.args.cursor.now.nexts c.args.list = taken_ahead s.lists c.args.cursor.now.nexts c.args.list c.requires.at.next.size apart c.requires.next in
    let under = taken.within in
    let many = ap length lists in
    let len = c.self.inside.lists.ok.0 in
    omega (arith, under, many, len)

pub index-requires : goal.index-requires
index-requires c =
    let s = c.args.self.now in
    let lists : c.self.inside.lists.items ≡ s.lists = ap (λ (x : SheafValue). x.lists) c.self.view_is in
    let apart : AreApart s.lists = subst AreApart lists c.self.invariant.apart in
    let taken : IsTaken s.lists c.args.cursor.now.nexts c.args.list = taken_ahead s.lists c.args.cursor.now.nexts c.args.list c.requires.at.next.size apart c.requires.next in
    let under = taken.within in
    let many = ap (λ (x : CursorValue). length x.nexts) c.cursor.view_is in
    let size = c.requires.at.next.size in
    let len = c.cursor.inside.nexts.ok.0 in
    omega (arith, under, many, size, len)

pub line-requires : goal.line-requires
line-requires c =
    let s = c.args.self.now in
    let lists : c.self.inside.lists.items ≡ s.lists = ap (λ (x : SheafValue). x.lists) c.self.view_is in
    let apart : AreApart s.lists = subst AreApart lists c.self.invariant.apart in
    let taken : IsTaken s.lists c.args.cursor.now.nexts c.args.list = taken_ahead s.lists c.args.cursor.now.nexts c.args.list c.requires.at.next.size apart c.requires.next in
    let many = ap length lists in
    let size = c.requires.at.next.size in
    let read : c.index-lines.result.now ≡ lines_of s.lists c.args.list = get_or_read c.self.inside.lists.items c.args.list c.index-lines.result.now (let under = taken.within in omega (arith, under, many)) c.index-lines.ensures [] ∙ ap (λ (ls : List (List TraceLine)). lines_of ls c.args.list) lists in
    let nexts : c.cursor.inside.nexts.items ≡ c.args.cursor.now.nexts = ap (λ (x : CursorValue). x.nexts) c.cursor.view_is in
    let same = ap length nexts in
    let at : c.index.result.now ≡ get_or c.args.cursor.now.nexts c.args.list 0 = get_or_read c.cursor.inside.nexts.items c.args.list c.index.result.now (let under = taken.within in omega (arith, under, size, same)) c.index.ensures 0 ∙ ap (λ (ns : List ℕ). get_or ns c.args.list 0) nexts in
    subst (λ (n : ℕ). n < length c.index-lines.result.now) (sym at) (subst (λ (lines : List TraceLine). get_or c.args.cursor.now.nexts c.args.list 0 < length lines) (sym read) taken.inside)

pub returns : goal.returns
returns c =
    let s = c.args.self.now in
    let lists : c.self.inside.lists.items ≡ s.lists = ap (λ (x : SheafValue). x.lists) c.self.view_is in
    let apart : AreApart s.lists = subst AreApart lists c.self.invariant.apart in
    let taken : IsTaken s.lists c.args.cursor.now.nexts c.args.list = taken_ahead s.lists c.args.cursor.now.nexts c.args.list c.requires.at.next.size apart c.requires.next in
    let many = ap length lists in
    let size = c.requires.at.next.size in
    let read : c.index-lines.result.now ≡ lines_of s.lists c.args.list = get_or_read c.self.inside.lists.items c.args.list c.index-lines.result.now (let under = taken.within in omega (arith, under, many)) c.index-lines.ensures [] ∙ ap (λ (ls : List (List TraceLine)). lines_of ls c.args.list) lists in
    let nexts : c.cursor.inside.nexts.items ≡ c.args.cursor.now.nexts = ap (λ (x : CursorValue). x.nexts) c.cursor.view_is in
    let same = ap length nexts in
    let at : c.index.result.now ≡ get_or c.args.cursor.now.nexts c.args.list 0 = get_or_read c.cursor.inside.nexts.items c.args.list c.index.result.now (let under = taken.within in omega (arith, under, size, same)) c.index.ensures 0 ∙ ap (λ (ns : List ℕ). get_or ns c.args.list 0) nexts in
    c.line.ensures
    ∙ ap (λ (lines : List TraceLine). line_in lines c.index.result.now) read
    ∙ ap (line_in (lines_of s.lists c.args.list)) at
    ∙ sym (first_left s c.args.cursor.now (line_in (lines_of s.lists c.args.list) (get_or c.args.cursor.now.nexts c.args.list 0)) _ c.requires.at taken.order)
