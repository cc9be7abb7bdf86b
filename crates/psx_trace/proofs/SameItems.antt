-- A text is the lines of one list of items at most.
use Rattle.std.proofs.Common.{◌≡◌, ◌≢◌, ℕ, suc, List, [], ◌∷◌, ◌++◌, All, refl, sym, ap, ◌∙◌, append_assoc, append-nil, arith}
use Rattle.std.proofs.lemmas.List.{append_cancel_left}
use Rattle.psx_trace.specs.declared.item.Item.{Item}
use Rattle.psx_trace.specs.declared.item.Item.TheVariants.{B, E, R, W, X, S}
use Rattle.psx_trace.specs.Line.{item_text, line}
use Rattle.psx_trace.specs.Plain.{item_of}
use Rattle.psx_trace.specs.Reading.{IsItem, IsTraceOf, IsFirstBad, BeginsWithNone, lines_of}
use Rattle.psx_trace.proofs.ItemReading.{same_item}

-- a line isn't empty
line_some : (item : Item) (rest : List ℕ) → line (item_of item) ++ rest ≡ [] → ⊥
unfolding item_text
line_some (B n) rest e = cc
line_some (E n cause epc gate number) rest e = cc
line_some (R n at value) rest e = cc
line_some (W n at value) rest e = cc
line_some (X n pc sr hi lo regs) rest e = cc
line_some (S n stop) rest e = cc

-- where the lines of ys are those of xs and a rest, ys are xs and more, whose lines are the rest
record More (xs ys : List Item) (rest : List ℕ) : Type 0 where
  more : List Item
  fit : All IsItem more
  is : ys ≡ xs ++ more
  lines : lines_of more ≡ rest

more_of : (xs ys : List Item) → All IsItem xs → All IsItem ys → (rest : List ℕ) → lines_of ys ≡ lines_of xs ++ rest → More xs ys rest
more_of [] ys fit_xs fit_ys rest e = record { more = ys; fit = fit_ys; is = refl; lines = e }
more_of (x ∷ xs) [] fit_xs fit_ys rest e = absurd (line_some x (lines_of xs ++ rest) (sym (e ∙ append_assoc (line (item_of x)) (lines_of xs) rest)))
more_of (x ∷ xs) (y ∷ ys) fit_xs fit_ys rest e =
    let regrouped = e ∙ append_assoc (line (item_of x)) (lines_of xs) rest in
    let same : y ≡ x = same_item y x (lines_of (y ∷ ys)) (fit_ys 0 y (omega arith)) (fit_xs 0 x (omega arith)) (lines_of ys, refl) (lines_of xs ++ rest, regrouped) in
    let behind = append_cancel_left (line (item_of x)) (lines_of ys) (lines_of xs ++ rest) (ap (λ (i : Item). line (item_of i) ++ lines_of ys) (sym same) ∙ regrouped) in
    let next = more_of xs ys (λ k d below. fit_xs (suc k) d (omega arith)) (λ k d below. fit_ys (suc k) d (omega arith)) rest behind in
    record { more = next.more; fit = next.fit; is = λ i. same i ∷ next.is i; lines = next.lines }

nothing_more : (more : List Item) → lines_of more ≡ [] → more ≡ []
nothing_more [] e = refl
nothing_more (m ∷ more) e = absurd (line_some m (lines_of more) e)

-- a text is the lines of one list of items at most
pub same_items : (text : List ℕ) (xs ys : List Item) → IsTraceOf text xs → IsTraceOf text ys → ys ≡ xs
same_items text xs ys trace_xs trace_ys =
    let next = more_of xs ys trace_xs.fit trace_ys.fit [] (sym trace_ys.is ∙ trace_xs.is ∙ sym (append-nil (lines_of xs))) in
    next.is ∙ ap (λ (more : List Item). xs ++ more) (nothing_more next.more next.lines) ∙ append-nil xs

none_left : (more : List Item) (rest : List ℕ) → All IsItem more → lines_of more ≡ rest → rest ≢ [] → BeginsWithNone rest → ⊥
none_left [] rest fit lines some bad = some (sym lines)
none_left (m ∷ more) rest fit lines some bad = bad m (fit 0 m (omega arith)) (lines_of more, sym lines)

-- a text with a bad line is the lines of no items
pub not_trace : (text : List ℕ) (number : ℕ) → IsFirstBad text number → (items : List Item) → IsTraceOf text items → ⊥
not_trace text number bad items trace =
    let next = more_of bad.items items bad.fit trace.fit bad.rest (sym trace.is ∙ bad.is) in
    none_left next.more bad.rest next.fit next.lines bad.some bad.bad
