use Rattle.std.proofs.Common.{rules, ◌≡◌, ◌≤◌, ◌+◌, ◌++◌, List, ℕ, Option, [], length, take, refl}
use Rattle.std.proofs.Common.{ap, sym, ◌∙◌, subst, arith}
use Rattle.std.proofs.lemmas.List.{with_items_is, length-take-le}
use Rattle.ports.specs.Files.{Files}
use Rattle.commands.specs.Reading.{IsFront}
use Rattle.commands.proofs.Pieces.{start, longer, whole, front_length}
use Rattle.commands.proofs.ReadingSteps.{reads_none, reads_then}
use Rattle.commands.proofs.taking.read_pieces.Goals as goal

pub loop-init : goal.loop-init
loop-init g c =
    let held = g.S.Shelf.held c.args.shelf.now in
    let room = c.in-Ok.ensures in
    record {
      piece = omega (arith, room);
      front = ([], refl, start held c.args.name.now, c.requires.none);
      counted = omega arith;
      small = omega arith;
      room = λ n l. c.requires.room n (omega (arith, l));
      reads = reads_none;
    }

pub returns-then-limit-from-clause-long : goal.returns-then-limit-from-clause-long
returns-then-limit-from-clause-long g c is =
    let held = g.S.Shelf.held c.args.shelf.now in
    let i = c.loop.invariant in
    let f = i.front in
    let name = c.args.name.now in
    let n = c.in_ok-n.n in
    let got = c.read_piece.new.piece in
    let near = subst (λ (held : Option Files). IsFront held name f.0) (sym i.reads.held) f.2 in
    let on = c.in_ok-n.ensures.front f.0 f.1 near in
    let far = subst (λ (held : Option Files). IsFront held name (f.0 ++ take n got)) i.reads.held
    on in
    let l = front_length f.0 got n c.loop.from f.1 c.in_ok-n.ensures.fits in
    let over = c.if-limit-from.true in
    longer held name (f.0 ++ take n got) c.args.limit (omega (arith, l, over)) far

pub loop-preserved : goal.loop-preserved
loop-preserved g c =
    let held = g.S.Shelf.held c.args.shelf.now in
    let i = c.loop.invariant in
    let f = i.front in
    let name = c.args.name.now in
    let n = c.in_ok-n.n in
    let got = c.read_piece.new.piece in
    let near = subst (λ (held : Option Files). IsFront held name f.0) (sym i.reads.held) f.2 in
    let on = c.in_ok-n.ensures.front f.0 f.1 near in
    let far = subst (λ (held : Option Files). IsFront held name (f.0 ++ take n got)) i.reads.held
    on in
    let p : c.deref.result.now ≡ got = c.deref.ensures.value
    ∙ with_items_is c.loop.piece got (c.read_piece.auto.piece ∙ c.deref_mut.ensures.len) in
    let took = c.in_ok-hand_on.ensures in
    record {
      piece = search rules;
      front = (
        f.0 ++ take n got,
        front_length f.0 got n c.loop.from f.1 c.in_ok-n.ensures.fits,
        far,
        subst (λ (b : List ℕ). g.T.Taker.took c.args.taker.now
            (f.0 ++ take n b) c.hand_on.new.taker) p (took.took c.args.taker.now f.0 f.3),
      );
      counted = search rules;
      small = search rules;
      room = λ k l. took.further k
          (i.room (length (take n c.deref.result.now) + k)
          (let q = ap (λ (s : List ℕ). length (take n s)) p
          ∙ length-take-le n got c.in_ok-n.ensures.fits in omega (arith, l, q)));
      reads = reads_then (λ r. r) (i.reads.ready.readable name) i.reads c.read_piece.ensures.reads;
    }
