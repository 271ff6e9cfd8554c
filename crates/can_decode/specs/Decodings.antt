-- What a log is decoded by.
use Rattle.std.specs.Prelude.{◌≡◌, List, map}
use Rattle.dbc_records.specs.Databases.{Database}
use Rattle.can_layout.specs.Plans.{Plan, plan_of}
use Rattle.can_decode.specs.MessageIndexes.{IsIndexOf}
use Rattle.can_decode.specs.declared.message_index.MessageIndex.{MessageIndex}

-- the plans of the messages of a database in order, with the index of its messages
pub record IsDecoding (database : Database) (plans : List Plan) (index : MessageIndex) : Type 0 where
  pub all_planned : plans ≡ map (plan_of database) database.messages
  pub all_found : IsIndexOf database index

-- lines are decoded by these plans, and by what finds messages in that database
pub record DecodesBy (database : Database) (plans : List Plan) (whole : Database) : Type 0 where
  pub all_planned : plans ≡ map (plan_of database) database.messages
  pub one_database : whole ≡ database
