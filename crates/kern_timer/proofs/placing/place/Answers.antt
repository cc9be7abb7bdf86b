use Rattle.kern_timer.proofs.placing.place.Goals as goal

pub returns : goal.returns
returns c = λ f r. c.put_listing-5.ensures _ (c.put_listing-4.ensures _ (c.put_listing-3.ensures _ (c.put_listing-2.ensures _ (c.put_listing.ensures _ (r)))))
