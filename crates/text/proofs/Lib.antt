mod Laying
mod Texts
mod SheetTexts
