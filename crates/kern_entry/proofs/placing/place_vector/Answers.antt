use Rattle.kern_entry.proofs.placing.place_vector.Goals as goal

pub returns : goal.returns
returns c = λ f r. c.put_listing.ensures _ (c.put_gate-5.ensures _ (c.put_gate-4.ensures _ (c.put_gate-3.ensures _ (c.put_gate-2.ensures _ (c.put_gate.ensures _ r)))))
