-- What is next is the step that the replay makes, and its body is a part of the file. Assumes nothing.
use Prim.Native.Nat.{ℕ, ◌+◌, ◌≤◌, ◌<◌}
use mathlib.Core.Path.{◌≡◌, refl, ap, subst}
use mathlib.Core.List.{List}
use native.Mathlib.Omega.{arith}
use borrow.Author.Tests.{eqb-true, eqb-false, leb-true}
use lib.Dec.{eqb, leb}
use lib.ListN.{length}
use Rattle.records.specs.Records.{part, record_from}
use Rattle.records.specs.Contents.{content_of, events_of}
use Rattle.records.specs.declared.reading.Body.{Body}
use Rattle.std.specs.Prelude.{Option, None, Some, Result, Ok, Err}
use Rattle.refusals.specs.declared.Refusal.{Refusal}
use Rattle.records.specs.declared.contents.Received.{Received}
use Rattle.records.specs.declared.contents.Received.TheVariants as line
use Rattle.records.specs.declared.contents.Content.{Content}
use Rattle.records.specs.declared.contents.Content.TheVariants as k
use Rattle.wire.proofs.Choices.{by_cond, by_bool}
use Rattle.records.proofs.Bodies.{Within, from_within, Single, content_single}
use Rattle.session.specs.Runs.{Cursor, lent_to, entered, first_step, body_step, record_step, step_of}
use Rattle.session.specs.Next.{Next, Stop, next_body, next_record, refused_at, next_of, next_step}
use Rattle.session.specs.declared.next.Next.TheVariants as n
use Rattle.records.proofs.Parts.{part_length, part_none}

module _ (s : List ℕ) where
  body_next : (c : Cursor) (start end : ℕ) (x : Result Content Refusal) → body_step s c start end x ≡ next_step s c (refused_at c.at (next_body start end x))
  body_next c start end (Ok (k.Events received)) =
      by_cond (λ (y : Result Next Refusal). body_step s c start end (Ok (k.Events received)) ≡ next_step s c (refused_at c.at y)) (eqb start end)
      (λ t. ap (λ (l : List ℕ). first_step (entered c start end) (events_of received l) (lent_to s c)) (part_none s start end (omega (arith, eqb-true start end t)))) (λ t. refl)
  body_next c start end (Ok k.Samples) = refl
  body_next c start end (Err why) = refl

  record_next : (c : Cursor) (x : Result (Option Body) Refusal) → record_step s c x ≡ next_step s c (refused_at c.at (next_record s x))
  record_next c (Ok (Some x)) = body_next c x.start x.end (content_of x.kind (part s x.start x.end))
  record_next c (Ok None) = refl
  record_next c (Err why) = refl

  pub step_next : (c : Cursor) → step_of s c ≡ next_step s c (next_of s c.at c.end)
  unfolding step_of next_of
  step_next c = by_bool (leb (length s) 32768) (λ t. rw t (record_next c (record_from s c.at c.end))) (λ t. rw t)

  -- a body with events is a part of the file, and not empty; one event if it is a fault
  pub record Lies (received : Received) (start end : ℕ) : Type 0 where
    pub some : start < end
    pub within : end ≤ length s
    pub single : received ≡ line.Fault → end ≡ start + 1
    pub size : length s ≤ 32768

  abbrev InFile : Result Next Refusal → Type 0
  InFile (Ok (n.Event received start end)) = (start < end) × (end ≤ length s) × (received ≡ line.Fault → end ≡ start + 1)
  InFile (Ok (n.Empty start end)) = Unit {0}
  InFile (Ok (n.Samples start end)) = Unit {0}
  InFile (Ok n.End) = Unit {0}
  InFile (Err why) = Unit {0}

  abbrev AllLies : Result Next Stop → Type 0
  AllLies (Ok (n.Event received start end)) = Lies received start end
  AllLies (Ok (n.Empty start end)) = Unit {0}
  AllLies (Ok (n.Samples start end)) = Unit {0}
  AllLies (Ok n.End) = Unit {0}
  AllLies (Err x) = Unit {0}

  body_lies : (start end : ℕ) (x : Result Content Refusal) → Single (part s start end) x → start ≤ end → end ≤ length s → InFile (next_body start end x)
  body_lies start end (Ok (k.Events received)) w i j =
      by_cond InFile (eqb start end) (λ t. tt)
      (λ t. (omega (arith, eqb-false start end t), j, λ q. omega (arith, part_length s start end i j, w q)))
  body_lies start end (Ok k.Samples) w i j = tt
  body_lies start end (Err why) w i j = tt

  record_lies : (at : ℕ) (x : Result (Option Body) Refusal) → Within s at x → InFile (next_record s x)
  record_lies at (Ok (Some x)) w = body_lies x.start x.end (content_of x.kind (part s x.start x.end)) (content_single x.kind (part s x.start x.end)) w.1 w.2
  record_lies at (Ok None) w = tt
  record_lies at (Err why) w = tt

  placed_lies : (at : ℕ) (x : Result Next Refusal) → length s ≤ 32768 → InFile x → AllLies (refused_at at x)
  placed_lies at (Ok (n.Event received start end)) h w = record { some = w.0; within = w.1; single = w.2; size = h }
  placed_lies at (Ok (n.Empty start end)) h w = tt
  placed_lies at (Ok (n.Samples start end)) h w = tt
  placed_lies at (Ok n.End) h w = tt
  placed_lies at (Err why) h w = tt

  next_lies : (at end : ℕ) → AllLies (next_of s at end)
  unfolding next_of
  next_lies at end =
      by_cond AllLies (leb (length s) 32768)
      (λ t. placed_lies at (next_record s (record_from s at end)) (leb-true (length s) 32768 t) (record_lies at (record_from s at end) (from_within s at end))) (λ t. tt)

  pub event_lies : (at end : ℕ) {received : Received} {start stop : ℕ} → next_of s at end ≡ Ok (n.Event received start stop) → Lies received start stop
  event_lies at end e = subst AllLies e (next_lies at end)
