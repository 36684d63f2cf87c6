-- After each turn the arrays hold the state that the meaning's run has reached, and the report holds its records.
use mathlib.Core.Bool.{cond}
use mathlib.Core.List.{List, [], ◌∷◌, ◌++◌}
use mathlib.Core.Path.{◌≡◌, refl, sym, ap, ap₂, ◌∙◌}
use Prim.Native.Nat.{ℕ, suc, ◌+◌, ◌*◌, ◌/◌, ◌≤◌, ◌<◌}
use native.Mathlib.Omega.{arith}
use lib.Dec.{eqb}
use lib.ListN.{length, take, drop}
use lib.Seq.{drop-drop, take_at, drop-append-add}
use borrow.Author.Tests.{ne_eqb}
use Rattle.std.specs.Prelude.{Some, None}
use Rattle.meaning.specs.Below.{first}
use Rattle.meaning.specs.Bytes.{bytes, number}
use Rattle.meaning.specs.Table.{table, ceiling}
use Rattle.meaning.specs.Image.{image, state, image_bytes, wrong}
use Rattle.meaning.specs.Cycle.{cycle}
use Rattle.meaning.specs.Steps.{Stays, Steps}
use Rattle.meaning.proofs.Below.{first_before}
use Rattle.meaning.proofs.Near.{Alike}
use Rattle.meaning.proofs.Well.{Well}
use Rattle.meaning.proofs.Accepted.{accepted_well}
use Rattle.meaning.proofs.Fits.{Fits, counter_low, fits_after}
use Rattle.meaning.proofs.Run.{full, below_full, full_bursts, written_length}
use Rattle.meaning.proofs.Carried.{one_more, one_image, image_alike, after_alike, same_full, same_record_of}
use Rattle.state.specs.declared.State.{State}
use Rattle.state.specs.Records.{BlankPast}
use Rattle.state.specs.Holds.{held, Small, IdlePast, LoadAsks, Loaded, SaveAsks}
use Rattle.state.proofs.Past.{blank_past, idle_past}
use Rattle.state.proofs.Fitted.{holds_alike}
use Rattle.rows.specs.declared.Net.{Net}
use Rattle.levels.specs.declared.Kept.{Kept}
use Rattle.marking.specs.declared.Moves.{Moves}
use Rattle.turn.specs.declared.Outcome.{Outcome}
use Rattle.turn.specs.Turn.{Poised, Stepped}
use Rattle.cycles.specs.Cycles.{all_words, CyclesOf, Done, Broke}
use Rattle.numbers.proofs.Spelt.{words_from}

-- After i turns: the meaning's run has reached an image, the arrays hold its state, and the report holds its records.
pub record At (bs img ws report : List ℕ) (i : ℕ) (s : State) (out : List ℕ) : Type 0 where
  pub reached : List ℕ
  pub written : List ℕ
  pub steps : Steps (table bs) (all_words ws) img i (drop i (all_words ws)) reached written
  pub image_is : cond (eqb i 0) img (image_bytes (held s.tokens s.counters s.orders)) ≡ reached
  pub fits : Fits (table bs) (image reached)
  pub alike : Alike (state (image reached)) (held s.tokens s.counters s.orders)
  pub small : Small s.tokens s.counters
  pub out_is : out ≡ written ++ drop (24 * i) report

-- So it is, whatever table the net is of; and all is poised for the next turn.
pub record Turned (net : Net) (img ws : List ℕ) (count : ℕ) (report : List ℕ) (i : ℕ) (s : State) (out : List ℕ)
    (kept : Kept) (moves : Moves) : Type 0 where
  pub within : i ≤ count
  pub at : (bs : List ℕ) → CyclesOf bs net img ws count report → At bs img ws report i s out
  pub poised : Poised net s kept moves

module _ {bs : List ℕ} {net : Net} {img ws : List ℕ} {count : ℕ} {report : List ℕ}
    (of : CyclesOf bs net img ws count report) where
  -- The image that is lent fits.
  pub fitting : Fits (table bs) (image img)
  fitting k l = first_before 192 (wrong (table bs) (image img)) k (rw of.fits l)

  blank : BlankPast (image img) (8 * net.eights)
  blank = blank_past (table bs) of.laid.net_of.below (image img) fitting

  -- Its state can be loaded.
  pub load_asks : LoadAsks img (8 * net.eights)
  load_asks = record { whole = of.whole; few = of.laid.net_of.few; blank = blank }

  well : Well (table bs)
  well = accepted_well bs of.laid.net_of.sound

  -- Before the first turn.
  pub begins : {s : State} → Loaded img s → At bs img ws report 0 s report
  begins loaded =
      record {
        reached = img;
        written = [];
        steps = Steps.none;
        image_is = refl;
        fits = fitting;
        alike = holds_alike loaded.holds;
        small = loaded.small;
        out_is = refl;
      }

  -- Past the numbers of the table the arrays have nothing.
  pub idle : {i : ℕ} {s : State} {out : List ℕ} → At bs img ws report i s out
      → IdlePast s.tokens s.counters (8 * net.eights)
  idle {s = s} at = idle_past (table bs) of.laid.net_of.below (image at.reached) at.fits s.orders at.alike

  -- After the last turn.
  pub finished : {s : State} {img' out : List ℕ} → At bs img ws report count s out
      → img' ≡ image_bytes (held s.tokens s.counters s.orders) → Done bs img ws report count img' out
  finished at saved =
      record {
        left = drop count (all_words ws);
        reached = at.reached;
        written = at.written;
        steps = at.steps;
        image_is = rw saved at.image_is;
        out_is = at.out_is;
      }

  -- What the arrays hold can be saved.
  pub save_asks : {i : ℕ} {s : State} {out : List ℕ} → At bs img ws report i s out → SaveAsks img s (8 * net.eights)
  save_asks at =
      record { whole = of.whole; few = of.laid.net_of.few; small = at.small; blank = blank; idle = idle at }

  module _ {i : ℕ} {s : State} {out : List ℕ} (at : At bs img ws report i s out) (more : i < count) {word : ℕ}
      (word_is : word ≡ number (take 8 (drop (8 * i) ws))) {r : Outcome} {s' : State}
      (step : Stepped (table bs) (held s.tokens s.counters s.orders) word r s') where
    next_word : Steps (table bs) (all_words ws) img i (word ∷ drop (suc i) (all_words ws)) at.reached at.written
    next_word = rw (word_is, sym (words_from (length ws / 8) i ws (omega (arith, more, of.enough)))) at.steps

    -- A place would be overfull: the cycle is refused there.
    pub bursts : {p : ℕ} → r.full ≡ Some p → Broke bs img ws report i p out
    bursts {p} e =
        let found : (p < 128) × (first 128 _ ≡ p) = rw e at step.full_is in
        let full_is : p ≡ full (table bs) at.reached word =
        sym found.1 ∙ same_full (table bs) well at.reached (held s.tokens s.counters s.orders) at.alike word in
        record {
          word = word;
          left = drop (suc i) (all_words ws);
          reached = at.reached;
          written = at.written;
          steps = next_word;
          bursts = rw full_is (full_bursts (table bs) at.reached word (rw (sym full_is) found.0));
          out_is = at.out_is;
        }

    module _ (none : r.full ≡ None) where
      stays : Stays (table bs) at.reached word
      stays p l =
          let same = same_full (table bs) well at.reached (held s.tokens s.counters s.orders) at.alike word in
          below_full (table bs) at.reached word p (rw (sym same, rw none at step.full_is) l)

      -- The arrays hold the state after the cycle.
      agree : Alike (cycle (table bs) at.reached word).after (held s'.tokens s'.counters s'.orders)
      agree =
          let same = after_alike (table bs) well at.reached (held s.tokens s.counters s.orders) at.alike word in
          record {
            tokens = λ p l. step.tokens_are p l ∙ same.tokens p l;
            counter = λ t l. step.counters_are t l ∙ same.counter t l;
            order = λ t l. step.orders_are t l ∙ same.order t l;
          }

      tokens_low : (p : ℕ) → p < 128 → (cycle (table bs) at.reached word).after.tokens p ≤ 65535
      unfolding ceiling
      tokens_low p l = stays p l

      counters_low : (t : ℕ) → t < 64 → (cycle (table bs) at.reached word).after.counter t ≤ 65535
      counters_low = counter_low (table bs) well at.reached word at.fits

      -- No place is: the cycle is finished, and its record written.
      pub turned : {out' : List ℕ}
          → out' ≡ take (24 * i) out ++ (bytes 8 r.fired ++ bytes 8 r.actions ++ bytes 8 r.functions)
          ++ drop (24 * i + 24) out
          → At bs img ws report (suc i) s' out'
      turned e =
          record {
            reached = image_bytes (cycle (table bs) at.reached word).after;
            written = at.written ++ (cycle (table bs) at.reached word).written;
            steps = one_more (table bs) next_word stays;
            image_is = rw (ne_eqb (suc i) 0 (λ z. absurd (omega arith))) (one_image _ _ agree);
            fits = fits_after (table bs) well at.reached word at.fits tokens_low;
            alike = image_alike _ _ agree tokens_low counters_low;
            small =
                record {
                  few_tokens = λ p l. rw (agree.tokens p l) (tokens_low p l);
                  low_counters = λ t l. rw (agree.counter t l) (counters_low t l);
                };
            out_is = e ∙ placed;
          }
        where
          long : length at.written ≡ 24 * i
          long = written_length (table bs) at.steps

          behind : drop (24 * i + 24) out ≡ drop (24 * suc i) report
          behind =
              let over : 24 * i + 24 ≡ 24 * suc i = omega arith in
              ap (drop (24 * i + 24)) at.out_is
              ∙ ap (λ (k : ℕ). drop (k + 24) (at.written ++ drop (24 * i) report)) (sym long)
              ∙ drop-append-add at.written (drop (24 * i) report) 24
              ∙ drop-drop 24 (24 * i) report
              ∙ ap (λ (k : ℕ). drop k report) over

          spelled : bytes 8 r.fired ++ bytes 8 r.actions ++ bytes 8 r.functions
              ≡ (cycle (table bs) at.reached word).written
          spelled =
              rw (step.fired_is, step.actions_are, step.functions_are)
              (same_record_of (table bs) well at.reached (held s.tokens s.counters s.orders) at.alike word)

          placed : take (24 * i) out ++ (bytes 8 r.fired ++ bytes 8 r.actions ++ bytes 8 r.functions)
              ++ drop (24 * i + 24) out
              ≡ (at.written ++ (cycle (table bs) at.reached word).written) ++ drop (24 * suc i) report
          placed =
              ap₂ (λ (a b : List ℕ). a ++ b)
              (ap₂ (λ (a b : List ℕ). a ++ b)
              (ap (take (24 * i)) at.out_is ∙ take_at at.written (drop (24 * i) report) (24 * i) long) spelled)
              behind
