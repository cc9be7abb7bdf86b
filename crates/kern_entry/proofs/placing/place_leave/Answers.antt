use Rattle.kern_entry.proofs.placing.place_leave.Goals as goal

pub returns : goal.returns
returns c = λ f r. c.put_listing-3.ensures _ (c.put_listing-2.ensures _ (c.put_listing.ensures _ (c.put_return.ensures _ r)))
