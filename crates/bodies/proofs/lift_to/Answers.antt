-- `bodies::lift_to` meets its contract: by the laws of Storing.antt.
-- Assumes nothing.
use native.Mathlib.Omega.{arith}
use mathlib.Core.Path.{◌∙◌, sym}
use mathlib.Core.List.{map}
use lib.ListN.{length-map}
use Rattle.std.proofs.lemmas.List.{get_or-map}
use Rattle.letters.proofs.Letters.{lies_end}
use Rattle.bodies.specs.Moving.{lifted_letter}
use Rattle.bodies.proofs.Lifting.{liftable_here, letters_lifted}
use Rattle.bodies.proofs.Storing.{storing_more, storing_all}
use Rattle.bodies.proofs.lift_to.Goals as goal

pub bounds-term-0 : goal.bounds-term-0
bounds-term-0 c = omega (arith, lies_end c.requires.0.lies)

pub lifted_letter-requires : goal.lifted_letter-requires
lifted_letter-requires c = liftable_here c.requires.0 (c.height_of-low.ensures.0) c.loop-i.i (omega arith)

pub loop-i-preserved : goal.loop-i-preserved
loop-i-preserved c =
    let g = lifted_letter c.args.c c.args.k c.args.h c.height_of-low.result in
    let n = length-map c.args.term.now g in
    storing_more c.args.out.now (map g c.args.term.now) c.loop-i.i (c.requires.1 ∙ sym n) (omega (arith, n)) c.loop-i.invariant (c.lifted_letter.ensures ∙ sym (get_or-map g c.args.term.now c.loop-i.i 0 0 (omega arith)))

pub returns : goal.returns
returns c =
    let g = lifted_letter c.args.c c.args.k c.args.h c.height_of-low.result in
    let n = length-map c.args.term.now g in
    letters_lifted (c.height_of-low.ensures.0) (storing_all c.args.out.now (map g c.args.term.now) c.loop-i.i (c.requires.1 ∙ sym n) (omega (arith, n)) c.loop-i.invariant)
