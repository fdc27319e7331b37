-- What the code promises of the normal form.
pub mod NormalForms
