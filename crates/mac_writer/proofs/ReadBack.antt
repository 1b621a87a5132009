-- THE ROUND TRIP of one header: what the header writer wrote is read as the header that was offered, GSSI and ISSI as SSI. Assumes nothing.
use Rattle.std.proofs.Common.{Ok}
use mathlib.Core.Path.{◌≡◌, sym, ap, ◌∙◌}
use mathlib.Core.Bool.{true}
use mathlib.Core.List.{List}
use Prim.Native.Nat.{ℕ}
use native.Mathlib.Omega.{arith}
use lib.ListN.{length}
use Rattle.bitbuffer.specs.Bits.{bits_of}
use Rattle.bitbuffer.proofs.Laws.{length-bits_of}
use Rattle.mac_pdus.specs.declared.ResourceHeader.{ResourceHeader}
use Rattle.mac_pdus.specs.declared.MacResource.{MacResource}
use Rattle.mac_pdus.specs.Headers.{resource_at, header_length}
use Rattle.mac_pdus.specs.Legal.{on_air, offered, as_read, writer_takes}
use Rattle.mac_pdus.proofs.LengthLaws.{header-size}
use Rattle.mac_pdus.proofs.LegalLaws.{legal-within, to_write, offered-again, taken-on-air}
use Rattle.mac_pdus.proofs.RoundTrip.{header-back}
use Rattle.mac_writer.specs.Writer.{WrittenAs}
use Rattle.mac_writer.proofs.WriterLaws.{was-taken, room-true}

-- the header `h`, written at `at` of the octets `t` and up to `next`, is read back
pub record ReadsBack (t : List ℕ) (at : ℕ) (h : MacResource) (next : ℕ) : Type 1 where
  -- the reader's header definition gives the header of the air, and the position that the writer answered
  pub header : {X : Type 0} (k : ResourceHeader → ℕ → X) → resource_at (bits_of t) at k ≡ k (on_air h) next
  -- which is the header that was offered, with GSSI and ISSI as SSI
  pub same : offered (on_air h) ≡ as_read h
  -- and which the block reader takes for a header
  pub taken : writer_takes (on_air h) ≡ true

pub written-reads-back : (s t : List ℕ) (at : ℕ) (h : MacResource) (next : ℕ) → WrittenAs s at h (Ok next) t → ReadsBack t at h next
written-reads-back s t at h next w =
    let k = was-taken s at h next w.replies in
    let r = room-true (length s) at (header_length (on_air h)) k.room in
    let n = header-size (on_air h) in
    let m = length-bits_of s in
    record {
      header = λ {X} f.
          ap (λ (l : List ℕ). resource_at l at f) (w.bits ∙ k.bits)
          ∙ header-back (bits_of s) at (on_air h) f (legal-within h (to_write h k.legal).fields) (omega (arith, r.inside, n, m))
          ∙ ap (f (on_air h)) (sym k.ends);
      same = offered-again h k.legal;
      taken = taken-on-air h k.legal;
    }
