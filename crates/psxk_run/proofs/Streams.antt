-- Texts that are sent in pieces.
use Rattle.std.proofs.Common.{◌≡◌, ℕ, List, [], ◌++◌, take, drop, Option, Some, None, refl, sym, ap, ◌∙◌, append-nil, append_assoc}
use Rattle.std.proofs.lemmas.List.{take-append-drop}
use Rattle.psx_base.specs.Host.{SendsFront}
use Rattle.psxk_run.specs.Sent.{Grew, GrewFront}
use Rattle.psxk_run.specs.Pieces.{Puts, Stream}
use Rattle.psxk_run.proofs.Tellings.{grew-none}

pub grew-more : (a b c : Option (List ℕ)) (x y : List ℕ) → Grew a b x → Grew b c y → Grew a c (x ++ y)
grew-more None b c x y f g = tt
grew-more (Some u) b c x y f g = let h = rw f at g in h ∙ ap Some (append_assoc u x y)

-- nothing of a text was sent yet
pub stream-start : (before : Option (List ℕ)) (whole : List ℕ) → Stream before before [] whole whole
stream-start before whole = record { sent = []; grew = grew-none before before refl; all = refl }

-- bytes of the text were put behind the piece
pub stream-puts : (before mid now : Option (List ℕ)) (piece bytes rest whole later : List ℕ) → Stream before mid piece (bytes ++ rest) whole → Puts mid now piece bytes later → Stream before now later rest whole
stream-puts before mid now piece bytes rest whole later s p = record {
  sent = s.sent ++ p.sent;
  grew = grew-more before mid now s.sent p.sent s.grew p.grew;
  all = ap (λ t. t ++ rest) (append_assoc s.sent p.sent later ∙ ap (λ t. s.sent ++ t) p.kept ∙ sym (append_assoc s.sent piece bytes))
      ∙ append_assoc (s.sent ++ piece) bytes rest ∙ s.all;
}

-- what waits and the rest were sent
pub stream-grew : (before mid now : Option (List ℕ)) (piece rest whole : List ℕ) → Stream before mid piece rest whole → Grew mid now (piece ++ rest) → Grew before now whole
stream-grew None mid now piece rest whole s g = tt
stream-grew (Some old) mid now piece rest whole s g =
    grew-more (Some old) mid now s.sent (piece ++ rest) s.grew g ∙ ap (λ t. Some (old ++ t)) (sym (append_assoc s.sent piece rest) ∙ s.all)

-- a front of what waits and the rest was sent
pub stream-front : (before mid now : Option (List ℕ)) (piece rest whole : List ℕ) → Stream before mid piece rest whole → GrewFront mid now (piece ++ rest) → GrewFront before now whole
stream-front before mid now piece rest whole s f = record {
  shown = s.sent ++ f.shown;
  rest = f.rest;
  grew = grew-more before mid now s.sent f.shown s.grew f.grew;
  whole = append_assoc s.sent f.shown f.rest ∙ ap (λ t. s.sent ++ t) f.whole ∙ sym (append_assoc s.sent piece rest) ∙ s.all;
}

-- fronts
pub front-none : (before now : Option (List ℕ)) (text : List ℕ) → now ≡ before → GrewFront before now text
front-none before now text same = record { shown = []; rest = text; grew = grew-none before now same; whole = refl }

pub front-all : (before now : Option (List ℕ)) (text : List ℕ) → Grew before now text → GrewFront before now text
front-all before now text grew = record { shown = text; rest = []; grew = grew; whole = append-nil text }

pub front-more : (before now : Option (List ℕ)) (text more : List ℕ) → GrewFront before now text → GrewFront before now (text ++ more)
front-more before now text more f = record { shown = f.shown; rest = f.rest ++ more; grew = f.grew; whole = sym (append_assoc f.shown f.rest more) ∙ ap (λ t. t ++ more) f.whole }

pub front-sends : (before now : Option (List ℕ)) (piece : List ℕ) → SendsFront before now piece → GrewFront before now piece
front-sends None now piece h = record { shown = []; rest = piece; grew = tt; whole = refl }
front-sends (Some old) now piece h = record { shown = take h.0 piece; rest = drop h.0 piece; grew = h.1; whole = take-append-drop h.0 piece }

-- what was put was sent but for the piece that waits
pub front-puts : (before now : Option (List ℕ)) (piece bytes later : List ℕ) → Puts before now piece bytes later → GrewFront before now (piece ++ bytes)
front-puts before now piece bytes later p = record { shown = p.sent; rest = later; grew = p.grew; whole = p.kept }

-- what was put, and then a front of the piece
pub front-puts_more : (before mid now : Option (List ℕ)) (piece bytes later : List ℕ) → Puts before mid piece bytes later → GrewFront mid now later → GrewFront before now (piece ++ bytes)
front-puts_more before mid now piece bytes later p f = record {
  shown = p.sent ++ f.shown;
  rest = f.rest;
  grew = grew-more before mid now p.sent f.shown p.grew f.grew;
  whole = append_assoc p.sent f.shown f.rest ∙ ap (λ t. p.sent ++ t) f.whole ∙ p.kept;
}

-- what was put, and then the whole piece
pub grew-puts : (before mid now : Option (List ℕ)) (piece bytes later : List ℕ) → Puts before mid piece bytes later → Grew mid now later → Grew before now (piece ++ bytes)
grew-puts None mid now piece bytes later p g = tt
grew-puts (Some old) mid now piece bytes later p g = grew-more (Some old) mid now p.sent later p.grew g ∙ ap (λ t. Some (old ++ t)) p.kept
