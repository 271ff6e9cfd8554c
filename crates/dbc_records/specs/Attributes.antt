-- Attributes: their definitions, values and defaults, as plain data.
-- Source: the DBC file format, "User Defined Attribute Definitions", whose grammar gives an enumeration at least one
-- text.
use Rattle.std.specs.Prelude.{Bool, true, nat_le, ℕ, List, All, length, Option, IfSome, IsTrue}
use Rattle.dbc_values.specs.Decimals.{IsDecimal}
use Rattle.dbc_values.specs.Names.{IsText}
use Rattle.dbc_records.specs.Comments.{IsTarget}
use Rattle.dbc_records.specs.declared.target.Target.{Target}
use Rattle.dbc_records.specs.declared.attribute.AttrValue.{AttrValue}
use Rattle.dbc_records.specs.declared.attribute.AttrValue.TheVariants as values
use Rattle.dbc_records.specs.declared.definition.Limits.{Limits}
use Rattle.dbc_records.specs.declared.definition.Object.{Object}
use Rattle.dbc_records.specs.declared.definition.Form.{Form}
use Rattle.dbc_records.specs.declared.definition.Form.TheVariants as forms

-- ---- definitions

pub record IsLimits (limits : Limits) : Type 0 where
  pub minimum : IsDecimal limits.minimum
  pub maximum : IsDecimal limits.maximum

abbrev pub IsForm : Form → Type 0
IsForm (forms.Int limits) = IfSome limits IsLimits
IsForm (forms.Hex limits) = IfSome limits IsLimits
IsForm (forms.Float limits) = IfSome limits IsLimits
IsForm forms.Str = Unit {0}
IsForm (forms.Enumeration texts) = All IsText texts

-- the definition of an attribute, of one kind of object or of the whole database
pub record AttrDef : Type 0 where
  pub object : Option Object
  pub name : List ℕ
  pub form : Form

-- an enumeration has at least one text
abbrev pub form_fits : Form → Bool
form_fits (forms.Int limits) = true
form_fits (forms.Hex limits) = true
form_fits (forms.Float limits) = true
form_fits forms.Str = true
form_fits (forms.Enumeration texts) = nat_le 1 (length texts)

pub record IsAttrDef (definition : AttrDef) : Type 0 where
  pub name : IsText definition.name
  pub form : IsForm definition.form
  pub fits : IsTrue (form_fits definition.form)

-- ---- values

abbrev pub IsAttrValue : AttrValue → Type 0
IsAttrValue (values.Text text) = IsText text
IsAttrValue (values.Decimal decimal) = IsDecimal decimal

pub record AttrDefault : Type 0 where
  pub name : List ℕ
  pub value : AttrValue

pub record IsAttrDefault (row : AttrDefault) : Type 0 where
  pub name : IsText row.name
  pub value : IsAttrValue row.value

pub record AttrRow : Type 0 where
  pub name : List ℕ
  pub target : Target
  pub value : AttrValue

pub record IsAttrRow (row : AttrRow) : Type 0 where
  pub name : IsText row.name
  pub target : IsTarget row.target
  pub value : IsAttrValue row.value
