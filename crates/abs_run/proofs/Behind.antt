-- A stay behind some of its accesses.
use Rattle.std.proofs.Common.{◌≡◌, ℕ, List, [], ◌∷◌, ◌++◌, take, length, refl, sym, ap, ◌∙◌, append-nil, append_assoc}
use Rattle.std.proofs.Math.Seq.{take-append_seam}
use Rattle.psx_base.specs.KernelState.{KernelState}
use Rattle.abs_kernel.specs.Stay.{Stay, Ask, Tell, Write}
use Rattle.abs_kernel.specs.KernelStep.{stay_of}
use Rattle.abs_kernel.specs.Played.{Access, Asked, Told, Written, End, Played, after, played, answers_of, ports_of, bytes_of}
use Rattle.abs_run.specs.KernelRun.{played_with, Does, IsWithin}

-- accesses before others
abbrev pub before : List Access → Played → Played
before made p = record { accesses = made ++ p.accesses; end = p.end }

-- the stay makes these accesses, where its first answers are those among them, and goes on as rest
abbrev pub Behind : Stay → List Access → Stay → Type 0
Behind stay made rest = (more : List ℕ) → played stay (answers_of made ++ more) ≡ before made (played rest more)

answers-append : (xs ys : List Access) → answers_of (xs ++ ys) ≡ answers_of xs ++ answers_of ys
answers-append [] ys = refl
answers-append (Asked port value ∷ xs) ys = ap (λ (l : List ℕ). value ∷ l) (answers-append xs ys)
answers-append (Told port value ∷ xs) ys = answers-append xs ys
answers-append (Written byte ∷ xs) ys = answers-append xs ys

pub ports-append : (xs ys : List Access) → ports_of (xs ++ ys) ≡ ports_of xs ++ ports_of ys
ports-append [] ys = refl
ports-append (Asked port value ∷ xs) ys = ap (λ (l : List Access). Asked port value ∷ l) (ports-append xs ys)
ports-append (Told port value ∷ xs) ys = ap (λ (l : List Access). Told port value ∷ l) (ports-append xs ys)
ports-append (Written byte ∷ xs) ys = ports-append xs ys

pub bytes-append : (xs ys : List Access) → bytes_of (xs ++ ys) ≡ bytes_of xs ++ bytes_of ys
bytes-append [] ys = refl
bytes-append (Asked port value ∷ xs) ys = bytes-append xs ys
bytes-append (Told port value ∷ xs) ys = bytes-append xs ys
bytes-append (Written byte ∷ xs) ys = ap (λ (l : List ℕ). byte ∷ l) (bytes-append xs ys)

answers-ports : (xs : List Access) → answers_of (ports_of xs) ≡ answers_of xs
answers-ports [] = refl
answers-ports (Asked port value ∷ xs) = ap (λ (l : List ℕ). value ∷ l) (answers-ports xs)
answers-ports (Told port value ∷ xs) = answers-ports xs
answers-ports (Written byte ∷ xs) = answers-ports xs

-- one access more
more-made : (stay : Stay) (made : List Access) (a : Access) (mid rest : Stay) → Behind stay made mid → ((more : List ℕ) → played mid (answers_of (a ∷ []) ++ more) ≡ after a (played rest more)) → Behind stay (made ++ a ∷ []) rest
more-made stay made a mid rest h one more =
    ap (λ (l : List ℕ). played stay (l ++ more)) (answers-append made (a ∷ []))
    ∙ ap (played stay) (append_assoc (answers_of made) (answers_of (a ∷ [])) more)
    ∙ h (answers_of (a ∷ []) ++ more)
    ∙ ap (before made) (one more)
    ∙ ap (λ (l : List Access). record { accesses = l; end = (played rest more).end }) (sym (append_assoc made (a ∷ []) (played rest more).accesses))

pub behind-asked : (stay : Stay) (made : List Access) (port value : ℕ) (next : ℕ → Stay) → Behind stay made (Ask port next) → Behind stay (made ++ Asked port value ∷ []) (next value)
behind-asked stay made port value next h = more-made stay made (Asked port value) (Ask port next) (next value) h (λ more. refl)

pub behind-told : (stay : Stay) (made : List Access) (port value : ℕ) (next : Stay) → Behind stay made (Tell port value next) → Behind stay (made ++ Told port value ∷ []) next
behind-told stay made port value next h = more-made stay made (Told port value) (Tell port value next) next h (λ more. refl)

pub behind-written : (stay : Stay) (made : List Access) (byte : ℕ) (next : Stay) → Behind stay made (Write byte next) → Behind stay (made ++ Written byte ∷ []) next
behind-written stay made byte next h = more-made stay made (Written byte) (Write byte next) next h (λ more. refl)

module _ (s : KernelState) (code : ℕ) (made : List Access) (rest : Stay) (h : Behind (stay_of s code) made rest) where
  with-ports : (more : List ℕ) → played_with s code (ports_of made) more ≡ before made (played rest more)
  with-ports more = ap (λ (l : List ℕ). played (stay_of s code) (l ++ more)) (answers-ports made) ∙ h more

  -- the stay is done
  pub does : (bytes : List ℕ) (end : End) → bytes ≡ bytes_of made → played rest [] ≡ record { accesses = []; end = end } → Does s code (ports_of made) bytes end
  does bytes end same done =
      let e = with-ports [] ∙ ap (before made) done in
      record {
        ends = ap (λ (p : Played). p.end) e;
        makes = ap (λ (p : Played). ports_of p.accesses) e ∙ ap ports_of (append-nil made);
        prints = ap (λ (p : Played). bytes_of p.accesses) e ∙ ap bytes_of (append-nil made) ∙ sym same;
      }

  -- the stay goes on
  pub is_within : (bytes : List ℕ) → bytes ≡ bytes_of made → IsWithin s code (ports_of made) bytes
  is_within bytes same more enough =
      let e : take (length made) (played_with s code (ports_of made) more).accesses ≡ made = ap (λ (p : Played). take (length made) p.accesses) (with-ports more) ∙ take-append_seam made (played rest more).accesses in
      (length made, ap ports_of e, ap bytes_of e ∙ sym same)
