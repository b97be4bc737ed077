-- The lines of the monitor's texts (QEMU 7.2, softmmu/memory.c: mtree_print_mr, mtree_print_flatview, mtree_info_as).
use Rattle.std.specs.Prelude.{ℕ, ◌-◌, ◌/◌, ◌==◌, ◌||◌, if◌then◌else◌, nat_le, not, length, take, drop, position, Option, Some, None}
use Rattle.std.specs.Prelude.{option_and_then, option_map, unwrap_or, codes, Bool}
use Rattle.std.specs.List.{list_any}
use Rattle.std.specs.Str.{bytes_eq}
use Rattle.mem_base.specs.script.Spelling.{Text}
use Rattle.monitor_text.specs.declared.parts.RowHead.{RowHead}
use Rattle.monitor_text.specs.declared.rows.TreeRow.{TreeRow}
use Rattle.monitor_text.specs.declared.rows.FlatRow.{FlatRow}
use Rattle.monitor_text.specs.declared.rows.Window.{Window}
use Rattle.monitor_text.specs.declared.tree_text.TreeLine.{TreeLine}
use Rattle.monitor_text.specs.declared.tree_text.TreeLine.TheVariants as tree
use Rattle.monitor_text.specs.declared.flat_text.FlatLine.{FlatLine}
use Rattle.monitor_text.specs.declared.flat_text.FlatLine.TheVariants as flat
use Rattle.monitor_text.specs.Parts.{option_match, address, after_word, head, span, then_part, until, until_target, without_end}

-- Trees

-- a row of a region that is no alias
abbrev pub plain_row : ℕ → RowHead → Text → Bool → TreeRow
plain_row depth h name disabled = record {
  depth = depth;
  start = h.start;
  last = h.last;
  priority = h.priority;
  nonvolatile = h.nonvolatile;
  kind = h.kind;
  name = name;
  window = None;
  disabled = disabled;
}

-- the two offsets behind the target's name
abbrev pub offsets : Text → Option (ℕ × ℕ)
offsets text = option_and_then (λ t. then_part (span t) (λ ends u. if length u == 0 then Some ends else None)) (after_word (codes " ") text)

-- TARGET FIRST-LAST: the offsets, with what stands around them, are the last 34 bytes
abbrev pub window : Text → Option Window
window text =
    if nat_le 34 (length text) then option_map (λ ends. record { target = take (length text - 34) text; first = ends.0; last = ends.1 })
    (offsets (drop (length text - 34) text))
    else None

-- NAME @TARGET FIRST-LAST: the name may have an `@`, but none after a space
abbrev pub alias_row : ℕ → RowHead → Text → Bool → Option TreeRow
alias_row depth h text disabled =
    then_part (until_target text) (λ name t. option_map (λ w. record (plain_row depth h name disabled) { window = Some w }) (window t))

-- what stands behind the kind: `alias` and the window, or a name
abbrev pub named_row : ℕ → RowHead → Text → Bool → Option TreeRow
named_row depth h body disabled = option_match (after_word (codes "alias ") body)
    (Some (plain_row depth h body disabled)) (λ t. alias_row depth h t disabled)

-- a row that is indented by this many spaces, two a step
abbrev pub tree_row : ℕ → Text → Option TreeRow
tree_row spaces text =
    then_part (head text) (λ h t. let body = without_end (codes " [disabled]") t in named_row (spaces / 2) h body.0 body.1)

-- how many spaces a text begins with
abbrev pub spaces_of : Text → ℕ
spaces_of text = unwrap_or (position (λ b. not (b == 32)) text) (length text)

-- what stands behind the word that tells a sum past 2^64
abbrev pub without_overflow : Text → Text
without_overflow text = unwrap_or (after_word (codes "[DETECTED OVERFLOW!] ") text) text

-- a line has an escape code, as each has that the monitor's line editor wrote
abbrev pub has_escape : Text → Bool
has_escape text = list_any (λ b. b == 27) text

-- a line is the command that was typed, as it stands or as the line editor wrote it
unfoldable pub is_echo : Text → Bool
is_echo text = bytes_eq (take 10 text) (codes "info mtree") || has_escape text

-- a line that says nothing of the map: a blank one, or one on which a command was typed, or with which the monitor greets
abbrev pub is_other : Text → Bool
is_other text =
    (spaces_of text == length text) || bytes_eq (take 6 text) (codes "(qemu)") || bytes_eq (take 5 text) (codes "QEMU ") || is_echo text

-- a line of a region
abbrev pub row_line : Text → Option TreeLine
row_line text = option_map (λ r. tree.Row r) (tree_row (spaces_of text) (drop (spaces_of text) text))

-- a line that names no space
abbrev pub region_line : Text → Option TreeLine
region_line text = option_match (after_word (codes "memory-region: ") text) (row_line (without_overflow text)) (λ name. Some (tree.Region name))

-- a line of `info mtree`
abbrev pub tree_line : Text → Option TreeLine
tree_line text =
    if is_other text then Some tree.Other
    else option_match (after_word (codes "address-space: ") text) (region_line text) (λ name. Some (tree.Space name))

-- Flat views

-- ` @` and an offset
abbrev pub offset_of : Text → Option ℕ
offset_of text = option_and_then (λ t. then_part (address t) (λ n u. if length u == 0 then Some n else None)) (after_word (codes " @") text)

-- a name, and the offset after it where it is not 0: the last 18 bytes
abbrev pub name_offset : Text → Text × ℕ
name_offset text =
    if nat_le 18 (length text) then option_match (offset_of (drop (length text - 18) text)) (text, 0) (λ n. (take (length text - 18) text, n))
    else (text, 0)

-- without the name of an accelerator at the end, where it stands there (mtree_print_flatview, which tells so what KVM has as a slot)
unfoldable pub without_mark : Text → Text
without_mark text =
    if (without_end (codes " KVM") text).1 then (without_end (codes " KVM") text).0
    else if (without_end (codes " HVF") text).1 then (without_end (codes " HVF") text).0
    else if (without_end (codes " WHPX") text).1 then (without_end (codes " WHPX") text).0
    else if (without_end (codes " NVMM") text).1 then (without_end (codes " NVMM") text).0
    else (without_end (codes " HAX") text).0

-- without two of them: it stands there once for each space of the accelerator that has the range, and there are two at most
abbrev pub without_marks : Text → Text
without_marks text = without_mark (without_mark text)

-- a range of a view
abbrev pub flat_row : Text → Option FlatRow
flat_row text = then_part (head text) (λ h t. let n = name_offset (without_marks t) in Some (record {
  start = h.start;
  last = h.last;
  priority = h.priority;
  nonvolatile = h.nonvolatile;
  kind = h.kind;
  name = n.0;
  offset = n.1;
}))

-- the line of a space that shows the view: its name stands before the quote that ends it
abbrev pub space_line : Text → Option FlatLine
space_line text = then_part (until 34 text) (λ name t. Some (flat.Space name))

-- the line of a range
abbrev pub range_line : Text → Option FlatLine
range_line text = option_map (λ r. flat.Row r) (flat_row (drop (spaces_of text) text))

-- a line below the head of a view
abbrev pub shown_line : Text → Option FlatLine
shown_line text = option_match (after_word (codes " Root memory region: ") text) (range_line text) (λ t. Some flat.Other)

-- a line below it that may name a space
abbrev pub named_line : Text → Option FlatLine
named_line text = option_match (after_word (codes " AS \"") text) (shown_line text) space_line

-- a line of `info mtree -f`
abbrev pub flat_line : Text → Option FlatLine
flat_line text =
    if is_other text then Some flat.Other
    else if bytes_eq text (codes "  No rendered FlatView") then Some flat.Empty
    else option_match (after_word (codes "FlatView #") text) (named_line text) (λ t. Some flat.View)
