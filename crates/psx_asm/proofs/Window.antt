-- What a statement places, once its bytes are known to be in the window.
use Rattle.std.proofs.Common.{◌≡◌, ℕ, Bool, true, false, List, ◌++◌, find, Option, Some, None, Result, Ok, Err, refl, ap, ◌∙◌, if◌then◌else◌}
use Rattle.psx_asm.specs.declared.fault.AsmFault.{AsmFault}
use Rattle.psx_asm.specs.declared.fault.AsmFault.TheVariants.{Overlap}
use Rattle.psx_asm.specs.declared.fault.Failure.{Failure}
use Rattle.psx_asm.specs.declared.fault.Failure.TheVariants as failures
use Rattle.psx_asm.specs.Failing.{Fails}
use Rattle.psx_asm.specs.Operands.{Known}
use Rattle.psx_asm.specs.Statement.{Statement}
use Rattle.psx_asm.specs.Line.{◌>>=◌}
use Rattle.psx_asm.specs.Encoding.{encoded}
use Rattle.psx_asm.specs.Placing.{addressed, in_window, is_overlap, placing}
use Rattle.psx_asm.specs.Output.{bytes_inside, placed_behind}
use Rattle.psx_asm.proofs.Addresses.{outside}

abbrev Bytes : Type 0
Bytes = Result (List (ℕ × ℕ)) AsmFault

module _ (from to at : ℕ) (placed : List (ℕ × ℕ)) where
  abbrev free : List (ℕ × ℕ) → Bytes
  free new = if is_overlap placed new then Err Overlap else Ok new

  abbrev found : List ℕ → Option (ℕ × ℕ)
  found bytes = find (outside from to) (addressed at bytes)

  given : (r : Result (List ℕ) AsmFault) (bs : List ℕ) → (r >>= λ bytes. in_window (addressed at bytes) (found bytes) >>= λ new. Ok bytes) ≡ Ok bs
      → (r >>= λ bytes. in_window (addressed at bytes) (found bytes) >>= free) ≡ free (addressed at bs)
  given (Err e) bs h = cc
  given (Ok b) bs h = inner (found b) h
    where
      inner : (f : Option (ℕ × ℕ)) → (in_window (addressed at b) f >>= λ new. Ok b) ≡ Ok bs → (in_window (addressed at b) f >>= free) ≡ free (addressed at bs)
      inner (Some p) e = cc
      inner None e = let same : b ≡ bs = cc in ap (λ b. free (addressed at b)) same

  fails : (r : Result (List ℕ) AsmFault) (f : AsmFault) → (r >>= λ bytes. in_window (addressed at bytes) (found bytes) >>= λ new. Ok bytes) ≡ Err f
      → (r >>= λ bytes. in_window (addressed at bytes) (found bytes) >>= free) ≡ Err f
  fails (Err e) f h = cc
  fails (Ok b) f h = inner (found b) h
    where
      inner : (q : Option (ℕ × ℕ)) → (in_window (addressed at b) q >>= λ new. Ok b) ≡ Err f → (in_window (addressed at b) q >>= free) ≡ Err f
      inner (Some p) e = cc
      inner None e = cc

  chosen : (b : Bool) (new : List (ℕ × ℕ)) → b ≡ false → ((if b then Err Overlap else Ok new) >>= λ new. Ok (placed ++ new)) ≡ Ok (placed ++ new)
  chosen true new e = cc
  chosen false new e = refl

  refused : (b : Bool) (new : List (ℕ × ℕ)) → b ≡ true → ((if b then Err Overlap else Ok new) >>= λ new. Ok (placed ++ new)) ≡ Err Overlap
  refused true new e = refl
  refused false new e = cc

-- bytes that overlap nothing
pub placed_free : (known : Known) (from to at : ℕ) (placed : List (ℕ × ℕ)) (s : Statement) (bytes : List ℕ) → bytes_inside known from to at s ≡ Ok bytes
    → is_overlap placed (addressed at bytes) ≡ false → placed_behind known from to at placed s ≡ Ok (placed ++ addressed at bytes)
unfolding bytes_inside placing placed_behind
placed_free known from to at placed s bytes inside clear =
    ap (λ r. r >>= λ new. Ok (placed ++ new)) (given from to at placed (encoded known at s) bytes inside)
    ∙ chosen from to at placed (is_overlap placed (addressed at bytes)) (addressed at bytes) clear

-- bytes that overlap others
pub placed_taken : (known : Known) (from to at : ℕ) (placed : List (ℕ × ℕ)) (s : Statement) (bytes : List ℕ) → bytes_inside known from to at s ≡ Ok bytes
    → is_overlap placed (addressed at bytes) ≡ true → placed_behind known from to at placed s ≡ Err Overlap
unfolding bytes_inside placing placed_behind
placed_taken known from to at placed s bytes inside taken =
    ap (λ r. r >>= λ new. Ok (placed ++ new)) (given from to at placed (encoded known at s) bytes inside)
    ∙ refused from to at placed (is_overlap placed (addressed at bytes)) (addressed at bytes) taken

-- bytes that there aren't, or that aren't all in the window
pub placed_fails : (known : Known) (from to at : ℕ) (placed : List (ℕ × ℕ)) (s : Statement) (f : AsmFault) → bytes_inside known from to at s ≡ Err f
    → placed_behind known from to at placed s ≡ Err f
unfolding bytes_inside placing placed_behind
placed_fails known from to at placed s f outside = ap (λ r. r >>= λ new. Ok (placed ++ new)) (fails from to at placed (encoded known at s) f outside)

-- whatever the failure is
pub placed_failed : (known : Known) (from to at : ℕ) (placed : List (ℕ × ℕ)) (s : Statement) (e : Failure) → Fails e (bytes_inside known from to at s)
    → Fails e (placed_behind known from to at placed s)
placed_failed known from to at placed s failures.Memory h = tt
placed_failed known from to at placed s (failures.Fault f) h = placed_fails known from to at placed s f h
