use Rattle.std.proofs.Common.{◌≡◌, ◌<◌, length, get_or, arith, sym, ◌∙◌, rules, vec_len}
use Rattle.std.proofs.lemmas.List.{get_or_read}
use Rattle.faces.specs.Searching.{IsSet, unset}
use Rattle.faces.proofs.Numbering.{has_face, has_none, never_zero, none_joins, number_kept}
use Rattle.faces.proofs.Numbering.{number_next}
use Rattle.faces.proofs.Passing.{given_all, has_reached, kept_all, reached_face, reached_given}
use Rattle.faces.proofs.Passing.{reached_kept}
use Rattle.faces.proofs.Searches.{room_left}
use Rattle.faces.specs.Joins.{cells_of}
use Rattle.faces.proofs.labelling.number_next.Goals as goal

pub returns-then-ne : goal.returns-then-ne
returns-then-ne c =
    let x = get_or_read c.args.search.now.faces.items c.args.h c.index.result.now
    (let z = c.requires.begun.searched.searched.sized in let w = c.requires.within in
    omega (arith, z, w)) c.index.ensures 0 in
    number_kept c.args.graph.now.mesh.now
    (cells_of c.args.graph.now.joins.now) c.args.h c.args.count c.args.search.now
    c.requires.begun c.requires.within
    (λ (e : get_or c.args.search.now.faces.items c.args.h 0 ≡ unset).
    has_face c.index.result.now unset c.if-ne.ensures (x ∙ e))

pub reach-requires-clause-room : goal.reach-requires-clause-room
reach-requires-clause-room c e =
    let r = room_left c.args.graph.now.mesh.now
    (cells_of c.args.graph.now.joins.now) c.requires.graph.mesh_is c.requires.graph.joins.known
    c.args.search.now.faces.items c.args.search.now.queue.items c.args.search.now.passed
    c.args.h c.requires.begun.searched.searched c.requires.within e in
    let v : vec_len c.args.search.now.queue ≡ length c.args.search.now.queue.items = search rules in
    let q = c.requires.begun.searched.room in
    omega (arith, r, v, q)

pub spread-requires-clause-searched : goal.spread-requires-clause-searched
spread-requires-clause-searched c =
    let below : c.args.count < unset = (let f = c.requires.begun.few in let w = c.requires.within in
    let m = c.requires.graph.mesh_is.few in let q = c.requires.graph.mesh_is.pairs in
    omega (arith, f, w, m, q)) in
    has_reached c.args.graph.now.mesh.now
    (cells_of c.args.graph.now.joins.now) c.requires.graph.mesh_is c.requires.graph.joins.known
    c.args.h c.args.count c.requires.within below c.args.search.now c.reach.new.self
    c.requires.begun.searched
    (none_joins c.args.graph.now.mesh.now
    (cells_of c.args.graph.now.joins.now) c.args.h c.args.count c.args.search.now
    c.requires.begun below)
    (never_zero c.args.graph.now.mesh.now
    (cells_of c.args.graph.now.joins.now) c.args.h c.args.count c.args.search.now
    c.requires.begun) c.reach.ensures.reached c.reach.ensures.passed c.reach.ensures.room

pub returns : goal.returns
returns c =
    let below : c.args.count < unset = (let f = c.requires.begun.few in let w = c.requires.within in
    let m = c.requires.graph.mesh_is.few in let q = c.requires.graph.mesh_is.pairs in
    omega (arith, f, w, m, q)) in
    let x = get_or_read c.args.search.now.faces.items c.args.h c.index.result.now
    (let z = c.requires.begun.searched.searched.sized in let w = c.requires.within in
    omega (arith, z, w)) c.index.ensures 0 in
    let free : get_or c.args.search.now.faces.items c.args.h 0 ≡ unset = sym x
    ∙ has_none c.index.result.now unset c.if-ne.ensures in
    let here = reached_face c.args.graph.now.mesh.now
    (cells_of c.args.graph.now.joins.now) c.requires.graph.mesh_is c.requires.graph.joins.known
    c.args.h c.args.count c.requires.within below c.args.search.now c.reach.new.self
    c.requires.begun.searched
    (none_joins c.args.graph.now.mesh.now
    (cells_of c.args.graph.now.joins.now) c.args.h c.args.count c.args.search.now
    c.requires.begun below)
    (never_zero c.args.graph.now.mesh.now
    (cells_of c.args.graph.now.joins.now) c.args.h c.args.count c.args.search.now
    c.requires.begun) c.reach.ensures.reached c.reach.ensures.passed c.reach.ensures.room
    (λ (k : IsSet c.args.search.now.faces.items c.args.h). absurd (k free)) in
    let kept = reached_kept c.args.graph.now.mesh.now
    (cells_of c.args.graph.now.joins.now) c.requires.graph.mesh_is c.requires.graph.joins.known
    c.args.h c.args.count c.requires.within below c.args.search.now c.reach.new.self
    c.requires.begun.searched
    (none_joins c.args.graph.now.mesh.now
    (cells_of c.args.graph.now.joins.now) c.args.h c.args.count c.args.search.now
    c.requires.begun below)
    (never_zero c.args.graph.now.mesh.now
    (cells_of c.args.graph.now.joins.now) c.args.h c.args.count c.args.search.now
    c.requires.begun) c.reach.ensures.reached c.reach.ensures.passed c.reach.ensures.room in
    let given = given_all c.args.count c.args.search.now.faces.items c.reach.new.self.faces.items
    c.spread.new.search.faces.items
    (reached_given c.args.h c.args.count c.args.search.now c.reach.new.self
    c.reach.ensures.reached) c.spread.ensures.given c.spread.ensures.kept in
    number_next c.args.graph.now.mesh.now
    (cells_of c.args.graph.now.joins.now) c.args.h c.args.count c.args.search.now
    c.requires.begun c.requires.within c.spread.new.search c.spread.ensures.searched
    c.spread.ensures.done
    (kept_all c.args.search.now.faces.items c.reach.new.self.faces.items
    c.spread.new.search.faces.items kept c.spread.ensures.kept)
    (c.spread.ensures.kept c.args.h
    (λ (e : get_or c.reach.new.self.faces.items c.args.h 0 ≡ unset). omega
    (arith, e, here, below)) ∙ here)
    (λ g l k. given g k) below
