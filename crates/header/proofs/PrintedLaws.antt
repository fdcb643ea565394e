-- Table 7's rows are what is written, and what is read wherever what it fixes is found; the printed headers are such.
-- Assumes nothing.
use Rattle.std.specs.Prelude.{◌≡◌, refl, ℕ, ◌^◌, ◌<◌, List, ◌++◌, length, drop}
use Rattle.std.proofs.Common.{sym, ap, ◌∙◌, arith}
use Rattle.octets.specs.Number.{number, octets}
use Rattle.header.specs.declared.Head.{Head}
use Rattle.header.specs.Layout.{layout, tabulate, octet_of}
use Rattle.header.specs.Head.{header, head_of, value, headed, is_fixed}
use Rattle.header.specs.Printed.{table7, sample_head, sample_octets, figure_head, figure_octets, Sized, HeaderAsPrinted}
use Rattle.std.proofs.lemmas.Bool.{lt-leb}
use Rattle.header.proofs.HeadLaws.{Fits, length_header, read_back, written_fixed, fixed_read, headed_fits}
use Rattle.header.specs.Places.{Field, place, header_size}
use Rattle.header.specs.Places.Field.{h_type, ml, domain, data_field, node, da, v_seq, seq, m_ctl, inq_id, tcd, ver, gtid, mode, pver, pri, cbn, tbn, bsize, fui}

pub header_printed : (h : Head) → header h ≡ table7 h
unfolding header layout tabulate octet_of octets table7
header_printed h = refl

pub sample_written : header sample_head ≡ sample_octets
unfolding header layout tabulate octet_of octets sample_octets
sample_written = refl

pub sample_read : head_of sample_octets ≡ sample_head
unfolding head_of number sample_octets
sample_read = refl

pub figure_written : header figure_head ≡ figure_octets
unfolding header layout tabulate octet_of octets figure_octets
figure_written = refl

pub figure_read : head_of figure_octets ≡ figure_head
unfolding head_of number figure_octets
figure_read = refl

-- ---- the header

sized_fits : (h : Head) → Sized h → Fits h
sized_fits h s = record { each = fit }
  where
    fit : (f : Field) → value h f < 256 ^ (place f).1
    fit h_type = omega arith
    fit ml = s.ml
    fit domain = omega arith
    fit data_field = s.data_field_octet
    fit node = s.node
    fit da = s.da
    fit v_seq = s.version
    fit seq = s.number
    fit m_ctl = s.mctl
    fit inq_id = omega arith
    fit tcd = s.tcd
    fit ver = omega arith
    fit gtid = omega arith
    fit mode = s.mode
    fit pver = omega arith
    fit pri = s.pri
    fit cbn = s.cbn
    fit tbn = s.tbn
    fit bsize = s.bsize
    fit fui = omega arith

pub header_as_printed : HeaderAsPrinted
unfolding headed
header_as_printed = record {
  size = λ h. ap length (sym (header_printed h)) ∙ length_header h;
  written = header_printed;
  laid = λ h s room. headed_fits s h room ∙ ap (λ (l : List ℕ). l ++ drop 64 s) (header_printed h);
  short = λ h s less. rw (lt-leb header_size (length s) less);
  read = λ h s t. ap (λ (l : List ℕ). head_of (l ++ t)) (sym (header_printed h)) ∙ read_back h t (sized_fits h s);
  fixed = λ h t. ap (λ (l : List ℕ). is_fixed (l ++ t)) (sym (header_printed h)) ∙ written_fixed h t;
  only = λ s o room e. fixed_read s o room e ∙ header_printed (head_of s);
  sample = (sample_written, sample_read);
  figure = (figure_written, figure_read);
}
