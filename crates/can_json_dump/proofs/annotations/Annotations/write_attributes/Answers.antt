use Rattle.can_json_texts.specs.Records.{own_attribute_json}
use Rattle.can_json_texts.proofs.Tokens.{array_written}
use Rattle.can_json_dump.specs.Subjects.{attributes_of}
use Rattle.can_json_dump.proofs.annotations.Annotations.write_attributes.Goals as goal

pub returns : goal.returns
returns c =
    array_written own_attribute_json (attributes_of c.args.self.now c.args.subject.now)
    c.args.text.now c.begin_array.new.self c.write_attribute_values.new.text c.end_array.new.self
    c.in_ok-end_array.ensures c.in_ok-write_attribute_values.ensures c.in_ok-begin_array.ensures
