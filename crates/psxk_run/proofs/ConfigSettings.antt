-- Settings that are said one after the other.
use Rattle.std.proofs.Common.{◌≡◌, ℕ, ◌≤◌, List, [], ◌∷◌, ◌++◌, Option, Some, None, slice_get, refl, sym, ap, subst, ◌∙◌, append-nil}
use Rattle.psxk_run.specs.declared.configuration.Setting.{Setting}
use Rattle.psxk_run.specs.declared.configuration.Setting.TheVariants.{Nothing, Threads, Events}
use Rattle.psxk_run.specs.declared.configuration.Kept.{Kept}
use Rattle.psxk_run.specs.Config.{threads_of, events_of, IsOnce, IsKept}

pub threads_of-append : (xs ys : List Setting) → threads_of (xs ++ ys) ≡ threads_of xs ++ threads_of ys
threads_of-append [] ys = refl
threads_of-append (Nothing ∷ xs) ys = threads_of-append xs ys
threads_of-append (Threads n ∷ xs) ys = ap (λ l. n ∷ l) (threads_of-append xs ys)
threads_of-append (Events n ∷ xs) ys = threads_of-append xs ys

pub events_of-append : (xs ys : List Setting) → events_of (xs ++ ys) ≡ events_of xs ++ events_of ys
events_of-append [] ys = refl
events_of-append (Nothing ∷ xs) ys = events_of-append xs ys
events_of-append (Threads n ∷ xs) ys = events_of-append xs ys
events_of-append (Events n ∷ xs) ys = ap (λ l. n ∷ l) (events_of-append xs ys)

none_said : (xs : List ℕ) (r : Option ℕ) → r ≡ None → r ≡ slice_get xs 0 → xs ≡ []
none_said [] r none is = refl
none_said (x ∷ xs) r none is = cc

-- what is kept where one more setting is said
kept : (before : List Setting) (s : Setting) (threads events : Option ℕ) (ts es : List ℕ) → threads_of (before ++ s ∷ []) ≡ ts → events_of (before ++ s ∷ []) ≡ es
    → IsOnce 4 16 ts → IsOnce 16 64 es → threads ≡ slice_get ts 0 → events ≡ slice_get es 0 → IsKept (before ++ s ∷ []) (record { threads = threads; events = events })
kept before s threads events ts es is_ts is_es once_t once_e said_t said_e = record {
  right = record { threads = subst (IsOnce 4 16) (sym is_ts) once_t; events = subst (IsOnce 16 64) (sym is_es) once_e };
  threads = said_t ∙ ap (λ (l : List ℕ). slice_get l 0) (sym is_ts);
  events = said_e ∙ ap (λ (l : List ℕ). slice_get l 0) (sym is_es);
}

pub kept_nothing : (before : List Setting) (k : Kept) → IsKept before k → IsKept (before ++ Nothing ∷ []) k
kept_nothing before k is =
    kept before Nothing k.threads k.events (threads_of before) (events_of before) (threads_of-append before (Nothing ∷ []) ∙ append-nil (threads_of before))
    (events_of-append before (Nothing ∷ []) ∙ append-nil (events_of before)) is.right.threads is.right.events is.threads is.events

pub kept_threads : (before : List Setting) (k : Kept) (n : ℕ) → k.threads ≡ None → 4 ≤ n → n ≤ 16 → IsKept before k
    → IsKept (before ++ Threads n ∷ []) (record { threads = Some n; events = k.events })
kept_threads before k n none low high is =
    let first = none_said (threads_of before) k.threads none is.threads in
    kept before (Threads n) (Some n) k.events (n ∷ []) (events_of before) (threads_of-append before (Threads n ∷ []) ∙ ap (λ l. l ++ n ∷ []) first)
    (events_of-append before (Threads n ∷ []) ∙ append-nil (events_of before)) (low, high) is.right.events refl is.events

pub kept_events : (before : List Setting) (k : Kept) (n : ℕ) → k.events ≡ None → 16 ≤ n → n ≤ 64 → IsKept before k
    → IsKept (before ++ Events n ∷ []) (record { threads = k.threads; events = Some n })
kept_events before k n none low high is =
    let first = none_said (events_of before) k.events none is.events in
    kept before (Events n) k.threads (Some n) (threads_of before) (n ∷ []) (threads_of-append before (Events n ∷ []) ∙ append-nil (threads_of before))
    (events_of-append before (Events n ∷ []) ∙ ap (λ l. l ++ n ∷ []) first) is.right.threads (low, high) is.threads refl
