-- What data leaves and sends, alone or after a code. Assumes nothing.
use Prim.Native.Nat.{ℕ}
use mathlib.Core.Path.{◌≡◌, sym, ap, ◌∙◌}
use mathlib.Core.Bool.{Bool, true, false, cond}
use mathlib.Core.List.{List, ◌∷◌, map}
use Rattle.registers.specs.Registers.{reports_on, with_page, with_error}
use Rattle.registers.specs.declared.State.{State}
use Rattle.decisions.specs.Said.{Said, returned, sent, error_after, replies_of}
use Rattle.decisions.specs.Effects.{with_error_of}
use Rattle.decisions.proofs.Sent.{error_sent, replies_sent}
use Rattle.effects.specs.Replies.{Reply, Responded, reply_bytes, response, response_of, IsStored}

module _ (s : State) (xs : List ℕ) where
  pub all_sent : response s xs ≡ response_of s (map sent xs)
  all_sent =
      ap (λ (e : ℕ). response (with_page s (with_error s.page e)) xs) (sym (error_sent s.page.error xs))
      ∙ ap (λ (r : List ℕ). response (with_error_of s (map sent xs)) r) (sym (replies_sent (reports_on s.page.flags) xs))

-- a code stored, with a reply for each case of the reports
pub stored_said : (s : State) (k : ℕ) (on off : Reply) (xs : List Said) {r : Responded}
    → IsStored s k on off r → error_after s.page.error xs ≡ k
    → reply_bytes (with_page s (with_error s.page k)) on ≡ replies_of true xs → reply_bytes (with_page s (with_error s.page k)) off ≡ replies_of false xs
    → response r.state (reply_bytes r.state r.reply) ≡ response_of s xs
stored_said s k on off xs w e p q =
    let t = with_page s (with_error s.page k) in
    rw (w.state, w.reply, e) (ap (response t) (by_reports (reports_on s.page.flags)))
  where
    by_reports : (b : Bool) → reply_bytes (with_page s (with_error s.page k)) (cond b on off) ≡ replies_of b xs
    by_reports true = p
    by_reports false = q

-- .. and then data
pub error_coded : (e k : ℕ) (xs : List ℕ) → error_after e (returned k ∷ map sent xs) ≡ k
unfolding error_after
error_coded e k xs = error_sent k xs

pub coded_on : (k : ℕ) (xs : List ℕ) → k ∷ xs ≡ replies_of true (returned k ∷ map sent xs)
unfolding replies_of
coded_on k xs = ap (λ (r : List ℕ). k ∷ r) (sym (replies_sent true xs))

pub coded_off : (k : ℕ) (xs : List ℕ) → xs ≡ replies_of false (returned k ∷ map sent xs)
unfolding replies_of
coded_off k xs = sym (replies_sent false xs)
