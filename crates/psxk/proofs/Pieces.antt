-- What the loop over write keeps of known bytes.
use Rattle.std.proofs.Common.{◌≡◌, ℕ, ◌+◌, ◌-◌, List, ◌++◌, Option, None, Some, length, take, drop, sym, ap, ◌∙◌, append_assoc, take-append-drop}
use Rattle.std.proofs.lemmas.List.{take_rest}
use Rattle.std.proofs.Math.Seq.{take-append_seam, take-append-add}
use Rattle.std.specs.Io.KnownBytes.{Appends, Keeps}
use Rattle.psxk.specs.FileHost.{AppendsFront}

-- a fault left what was written before it
pub front-kept : (a b c : Option (List ℕ)) (all done left : List ℕ) → all ≡ done ++ left → Appends a b done → Keeps b c → AppendsFront a c all
front-kept None b c all done left split before kept = (0, tt)
front-kept (Some x) None c all done left split before kept = absurd before
front-kept (Some x) (Some y) None all done left split before kept = absurd kept
front-kept (Some x) (Some y) (Some z) all done left split before kept =
    (length done, kept ∙ before ∙ ap (λ l. x ++ l) (sym (ap (take (length done)) split ∙ take-append_seam done left)))

-- a write of n bytes wrote a front more
pub front-more : (a b c : Option (List ℕ)) (all done left : List ℕ) (n : ℕ) → all ≡ done ++ left → Appends a b done → Appends b c (take n left) → AppendsFront a c all
front-more None b c all done left n split before more = (0, tt)
front-more (Some x) None c all done left n split before more = absurd before
front-more (Some x) (Some y) None all done left n split before more = absurd more
front-more (Some x) (Some y) (Some z) all done left n split before more = (
  length done + n,
  more ∙ ap (λ l. l ++ take n left) before ∙ append_assoc x done (take n left)
      ∙ ap (λ l. x ++ l) (sym (ap (take (length done + n)) split ∙ take-append-add done left n)),
)

-- a write of n bytes moves them from what is left to what is done
pub split-more : (all done left : List ℕ) (n : ℕ) → all ≡ done ++ left → all ≡ (done ++ take n left) ++ take (length left - n) (drop n left)
split-more all done left n split =
    split ∙ ap (λ l. done ++ l) (sym (take-append-drop n left)) ∙ sym (append_assoc done (take n left) (drop n left))
    ∙ ap (λ l. (done ++ take n left) ++ l) (sym (take_rest left n))
