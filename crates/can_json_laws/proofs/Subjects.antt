-- What diagnostics are about reads back.
use Rattle.std.proofs.Common.{ℕ, ℤ, ◌<◌, ◌≤◌, ◌^◌, List, ◌++◌, Option, Some, None, arith, codes}
use Rattle.std.specs.Prelude.{unsigned_abs}
use Rattle.std.specs.Fmt.{signed_decimal}
use Rattle.can_json_texts.specs.Members.{text_members}
use Rattle.can_json_texts.specs.Records.{object_word}
use Rattle.can_json_texts.proofs.Numbers.{signed_is_number}
use Rattle.dbc_records.specs.Comments.{IsTarget}
use Rattle.dbc_records.specs.declared.definition.Object.{Object}
use Rattle.dbc_records.specs.declared.target.Target.{Target}
use Rattle.dbc_records.specs.declared.target.Target.TheVariants as targets
use Rattle.can_diagnostics.specs.Diagnostics.{IsSubject}
use Rattle.dbc_records.specs.EntryKeys.{IsEntryKey}
use Rattle.dbc_records.specs.declared.entry_key.EntryKey.{EntryKey}
use Rattle.dbc_records.specs.declared.entry_key.EntryKey.TheVariants as keys
use Rattle.can_diagnostics.specs.declared.subject.Subject.{Subject}
use Rattle.can_diagnostics.specs.declared.subject.Subject.TheVariants as subjects
use Rattle.can_json_findings.specs.Findings.{entry_member, object_members, target_members, key_members, subject_members}
use Rattle.can_json_laws.proofs.Written.{MembersRead, string_reads, number_reads, whole_reads, both_read, texts_read}
use Rattle.can_json_laws.proofs.Records.{number_small}
use Rattle.can_json_laws.specs.FindingLaws.{ValueFits}

entry_reads : (word : List ℕ) → MembersRead 2 (entry_member word)
entry_reads word = (string_reads 2 word, tt)

object_reads : (object : Option Object) → MembersRead 2 (object_members object)
object_reads None = tt
object_reads (Some object) = (string_reads 2 (object_word object), tt)

target_reads : (target : Target) → IsTarget target → MembersRead 2 (target_members target)
target_reads targets.Whole is = tt
target_reads (targets.Node name) is = (string_reads 2 name, tt)
target_reads (targets.Message n) is = (whole_reads 2 n (number_small n is), tt)
target_reads (targets.Signal n signal) is = (whole_reads 2 n (number_small n is.0), (string_reads 2 signal, tt))

key_reads : (key : EntryKey) → IsEntryKey key → MembersRead 2 (key_members key)
key_reads (keys.Table name) is = (string_reads 2 (codes "VAL_TABLE_"), (string_reads 2 name, tt))
key_reads (keys.Comment target) is =
    both_read 2 (entry_member (codes "CM_")) (target_members target) (entry_reads (codes "CM_")) (target_reads target is)
key_reads (keys.Definition object name) is =
    both_read 2 (entry_member (codes "BA_DEF_")) (object_members object ++ text_members (codes "name") name)
    (entry_reads (codes "BA_DEF_"))
    (both_read 2 (object_members object) (text_members (codes "name") name) (object_reads object)
    (texts_read 2 (codes "name") name))
key_reads (keys.Default name) is =
    both_read 2 (entry_member (codes "BA_DEF_DEF_")) (text_members (codes "name") name) (entry_reads (codes "BA_DEF_DEF_"))
    (texts_read 2 (codes "name") name)
key_reads (keys.Attribute name target) is =
    both_read 2 (entry_member (codes "BA_")) (text_members (codes "name") name ++ target_members target) (entry_reads (codes "BA_"))
    (both_read 2 (text_members (codes "name") name) (target_members target) (texts_read 2 (codes "name") name)
    (target_reads target is.1))
key_reads (keys.Values n signal) is =
    (string_reads 2 (codes "VAL_"), (whole_reads 2 n (number_small n is.0), (string_reads 2 signal, tt)))
key_reads (keys.Float n signal) is =
    (string_reads 2 (codes "SIG_VALTYPE_"), (whole_reads 2 n (number_small n is.0), (string_reads 2 signal, tt)))
key_reads (keys.Mux n signal) is =
    (string_reads 2 (codes "SG_MUL_VAL_"), (whole_reads 2 n (number_small n is.0), (string_reads 2 signal, tt)))

value_small : (value : ℤ) → unsigned_abs value ≤ 2 ^ 127 → unsigned_abs value < 10 ^ 64
value_small value fits = omega (arith, fits)

pub subject_reads : (subject : Subject) → IsSubject subject → ValueFits subject → MembersRead 2 (subject_members subject)
subject_reads (subjects.Message n name) is fits = (whole_reads 2 n (number_small n is.0), (string_reads 2 name, tt))
subject_reads (subjects.Sender n name node) is fits =
    (whole_reads 2 n (number_small n is.0), (string_reads 2 name, (string_reads 2 node, tt)))
subject_reads (subjects.Signal n name signal) is fits =
    (whole_reads 2 n (number_small n is.0), (string_reads 2 name, (string_reads 2 signal, tt)))
subject_reads (subjects.Pair n name first second) is fits =
    (whole_reads 2 n (number_small n is.0), (string_reads 2 name, (string_reads 2 first, (string_reads 2 second, tt))))
subject_reads (subjects.Receiver n name signal node) is fits =
    (whole_reads 2 n (number_small n is.0), (string_reads 2 name, (string_reads 2 signal, (string_reads 2 node, tt))))
subject_reads (subjects.Value n name signal value) is fits = (
  whole_reads 2 n (number_small n is.0),
  (
    string_reads 2 name,
    (
      string_reads 2 signal,
      (number_reads 2 (signed_decimal value) (signed_is_number value (value_small value fits)), tt),
    ),
  ),
)
subject_reads (subjects.Row key) is fits = key_reads key is
