use Rattle.kern_printf.proofs.placing.place.Goals as goal

pub returns : goal.returns
returns c = λ f r.
    c.put_listing-25.ensures _ (c.put_listing-24.ensures _ (c.put_listing-23.ensures _ (c.put_listing-22.ensures _ (c.put_listing-21.ensures _ (c.put_listing-20.ensures _ (
    c.put_listing-19.ensures _ (c.put_listing-18.ensures _ (c.put_listing-17.ensures _ (c.put_listing-16.ensures _ (c.put_listing-15.ensures _ (c.put_listing-14.ensures _ (
    c.put_listing-13.ensures _ (c.put_listing-12.ensures _ (c.put_listing-11.ensures _ (c.put_listing-10.ensures _ (c.put_listing-9.ensures _ (c.put_listing-8.ensures _ (
    c.put_listing-7.ensures _ (c.put_listing-6.ensures _ (c.put_listing-5.ensures _ (c.put_listing-4.ensures _ (c.put_listing-3.ensures _ (c.put_listing-2.ensures _ (
    c.put_listing.ensures _ (r)))))))))))))))))))))))))
