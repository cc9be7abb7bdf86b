use Rattle.std.proofs.Common.{sym, ◌∙◌}
use Rattle.kern_image.specs.declared.places.TheConstants.{PLACES}
use Rattle.kern_image.proofs.PlaceSearch.{place_on, place_here}
use Rattle.kern_image.proofs.tables.routine.Goals as goal

pub loop-place-preserved : goal.loop-place-preserved
loop-place-preserved c = place_on PLACES c.loop-place.place-index c.args.id _ c.loop-place-test.true (sym c.eq.ensures ∙ c.if-eq.false) ∙ c.loop-place.invariant

pub returns-then-eq : goal.returns-then-eq
returns-then-eq c = sym (place_here PLACES c.loop-place.place-index c.args.id _ c.loop-place-test.true (sym c.eq.ensures ∙ c.if-eq.true)) ∙ c.loop-place.invariant
